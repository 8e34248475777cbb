-- A tick stands in front of the query.
use Rattle.std.proofs.Common.{sym, subst, ◌∙◌}
use Rattle.parsing.specs.Reads.{Refuses}
use Rattle.query.specs.Grammar.{IsQuery}
use Rattle.requests.proofs.Lines.{no_rows, no_tick, no_query, bad_query, only_rows}
use Rattle.requests.proofs.reading.read_rows.Goals as goal

pub returns-in_default-clause-err : goal.returns-in_default-clause-err
returns-in_default-clause-err c = no_rows c.args.text.now (λ h. c.in_default.ensures (h.2.0, h.1) h.2.1)

pub returns-in_default-read_long_number-clause-err : goal.returns-in_default-read_long_number-clause-err
returns-in_default-read_long_number-clause-err c =
    no_rows c.args.text.now (no_tick c.args.text.now c.in-Some.word.now c.in-Some.rest.now c.in-Some.ensures c.in_default-read_long_number.ensures)

pub returns-in-Err-Outside-clause-err : goal.returns-in-Err-Outside-clause-err
returns-in-Err-Outside-clause-err c =
    no_query c.args.text.now c.in-Some.word.now c.in-Some.rest.now c.in-Some.ensures c.in-Some-read_long_number.since c.in-Some-read_long_number.ensures
    (subst (λ error. Refuses IsQuery c.in-Some.rest.now error) c.in-Err-Outside.field-0-is c.in-Err-Outside.ensures)

pub returns-in-Ok-check-clause-ok : goal.returns-in-Ok-check-clause-ok
returns-in-Ok-check-clause-ok c =
    only_rows c.args.text.now c.in-Some.word.now c.in-Some.rest.now c.in-Some.ensures c.in-Some-read_long_number.since c.in-Some-read_long_number.ensures c.in-Ok.query c.in-Ok.ensures c.in-Ok-check.ensures

pub returns-clause-err : goal.returns-clause-err
returns-clause-err c =
    bad_query c.args.text.now c.in-Some.word.now c.in-Some.rest.now c.in-Some.ensures c.in-Some-read_long_number.since c.in-Some-read_long_number.ensures c.in-Ok.query c.in-Ok.ensures
    (λ good. let clash = sym c.in-Err.ensures ∙ good in cc)
