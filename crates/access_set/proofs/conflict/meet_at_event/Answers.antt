use Rattle.std.proofs.Common.{◌∙◌, refl, sym, inl, inr}
use Rattle.std.proofs.lemmas.Bool.{both_ways}
use Rattle.access_set.proofs.Meets.{first_writes_event, second_writes_event, event_met}
use Rattle.access_set.proofs.conflict.meet_at_event.Goals as goal

pub returns-then-writes_named_event : goal.returns-then-writes_named_event
returns-then-writes_named_event c =
    ((λ e. first_writes_event c.args.a.now c.args.b.now (sym c.if-writes_named_event.ensures)), (λ met. refl))

pub returns : goal.returns
returns c = (
  (λ e. second_writes_event c.args.a.now c.args.b.now (sym c.writes_named_event-2.ensures ∙ e)),
  (λ met. elim (event_met c.args.a.now c.args.b.now met) [
    | inl first ↦ absurd (both_ways _ (sym c.if-writes_named_event.ensures) first)
    | inr second ↦ c.writes_named_event-2.ensures ∙ second
  ]),
)
