use Rattle.std.proofs.Common.{◌∙◌, sym, arith}
use Rattle.std.proofs.lemmas.Bool.{false≢true, both_ways}
use Rattle.ambiguity_report.proofs.races.is_ambiguous.Goals as goal

pub returns-then-contains : goal.returns-then-contains
returns-then-contains c =
    let rival = (c.rivals.ensures.members c.args.first).0 (sym c.contains.ensures ∙ c.if-contains.true) in (
      (λ e. let apart = c.is_unordered.ensures.0 e in record {
        first_known = rival.0;
        second_known = c.requires.known;
        differ = λ same. omega (arith, same, c.requires.rising);
        conflict = rival.1;
        not_before = apart.0;
        not_after = apart.1;
      }),
      (λ race. c.is_unordered.ensures.1 (race.not_before, race.not_after)),
    )

pub returns : goal.returns
returns c = (
  (λ e. absurd (false≢true e)),
  (λ race. absurd (both_ways c.contains.result c.if-contains.false (c.contains.ensures ∙ (c.rivals.ensures.members c.args.first).1 (race.first_known, race.conflict)))),
)
