use Rattle.std.proofs.Common.{◌∙◌, sym}
use Rattle.std.proofs.lemmas.Bool.{false≢true, both_ways}
use Rattle.ambiguity_report.proofs.races.is_condition_ambiguous.Goals as goal

pub returns-then-contains : goal.returns-then-contains
returns-then-contains c =
    let clash = (c.clashes.ensures.members c.args.system).0 (sym c.contains.ensures ∙ c.if-contains.true) in (
      (λ e. let outside = c.is_outside.ensures.0 e in record {
        condition_known = c.requires.condition;
        system_known = c.requires.system;
        conflict = clash.1;
        no_member = outside.no_member;
        not_before = outside.not_before;
        not_after = outside.not_after;
      }),
      (λ race. c.is_outside.ensures.1 (record { no_member = race.no_member; not_before = race.not_before; not_after = race.not_after })),
    )

pub returns : goal.returns
returns c = (
  (λ e. absurd (false≢true e)),
  (λ race. absurd (both_ways c.contains.result c.if-contains.false (c.contains.ensures ∙ (c.clashes.ensures.members c.args.system).1 (race.system_known, race.conflict)))),
)
