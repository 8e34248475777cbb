-- The alternatives are read in turn.
use Rattle.query.proofs.OrTerms.{three_read, three_without_first, three_without_second, three_without_third}
use Rattle.query.proofs.alternative.Alternatives.of_three.Goals as goal

pub returns-in_err-of_words : goal.returns-in_err-of_words
returns-in_err-of_words c = rw c.from_residual.ensures
    (three_without_first c.args.u.now c.args.k.now c.args.v.now c.args.l.now c.args.w.now c.args.m.now c.in_err-of_words.ensures)

pub returns-in_err-of_words-2 : goal.returns-in_err-of_words-2
returns-in_err-of_words-2 c = rw c.from_residual-in_err-of_words-2.ensures
    (three_without_second c.args.u.now c.args.k.now c.args.v.now c.args.l.now c.args.w.now c.args.m.now c.in_err-of_words-2.ensures)

pub returns-in_err-of_words-3 : goal.returns-in_err-of_words-3
returns-in_err-of_words-3 c = rw c.from_residual-in_err-of_words-3.ensures
    (three_without_third c.args.u.now c.args.k.now c.args.v.now c.args.l.now c.args.w.now c.args.m.now c.in_err-of_words-3.ensures)

pub returns : goal.returns
returns c = three_read c.args.u.now c.args.k.now c.args.v.now c.args.l.now c.args.w.now c.args.m.now
    c.in_ok-of_words.field-0 c.in_ok-of_words-2.field-0 c.in_ok-of_words-3.field-0
    c.in_ok-of_words.ensures c.in_ok-of_words-2.ensures c.in_ok-of_words-3.ensures
