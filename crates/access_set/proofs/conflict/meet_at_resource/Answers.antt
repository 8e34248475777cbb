use Rattle.std.proofs.Common.{◌∙◌, refl, sym, inl, inr}
use Rattle.std.proofs.lemmas.Bool.{both_ways}
use Rattle.access_set.proofs.Meets.{first_writes_resource, second_writes_resource, resource_met}
use Rattle.access_set.proofs.conflict.meet_at_resource.Goals as goal

pub returns-then-writes_named_resource : goal.returns-then-writes_named_resource
returns-then-writes_named_resource c =
    ((λ e. first_writes_resource c.args.a.now c.args.b.now (sym c.if-writes_named_resource.ensures)), (λ met. refl))

pub returns : goal.returns
returns c = (
  (λ e. second_writes_resource c.args.a.now c.args.b.now (sym c.writes_named_resource-2.ensures ∙ e)),
  (λ met. elim (resource_met c.args.a.now c.args.b.now met) [
    | inl first ↦ absurd (both_ways _ (sym c.if-writes_named_resource.ensures) first)
    | inr second ↦ c.writes_named_resource-2.ensures ∙ second
  ]),
)
