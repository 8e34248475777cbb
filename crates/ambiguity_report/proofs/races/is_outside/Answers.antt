use Rattle.std.proofs.Common.{◌≡◌, ◌∙◌, false, refl, sym, ap}
use Rattle.std.proofs.lemmas.Bool.{false≢true}
use Rattle.model.specs.Lists.{has}
use Rattle.model.specs.steps.Schedule.{ScheduledCondition, condition_at}
use Rattle.ambiguity_report.proofs.Members.{member_at, before_every, outside_tells}
use Rattle.ambiguity_report.proofs.races.is_outside.Goals as goal

pub is_before_each-requires-clause-others : goal.is_before_each-requires-clause-others
is_before_each-requires-clause-others c =
    let same : c.covers-members.result.now ≡ (condition_at c.args.built.now c.args.condition).covers = c.covers-members.ensures ∙ ap (λ (x : ScheduledCondition). x.covers) c.condition-covering.ensures in
    λ k d low. (member_at c.args.built.now c.prove_law.ensures c.args.condition c.covers-members.result.now same k d low).known

pub returns-then-is_before_each : goal.returns-then-is_before_each
returns-then-is_before_each c =
    let same : c.covers-members.result.now ≡ (condition_at c.args.built.now c.args.condition).covers = c.covers-members.ensures ∙ ap (λ (x : ScheduledCondition). x.covers) c.condition-covering.ensures in (
      (λ e. absurd (false≢true e)),
      (λ outside. absurd (outside.not_before (before_every c.args.built.now c.args.condition c.args.system c.covers-members.result.now same (c.if-is_before_each.ensures.0 refl)))),
    )

pub is_after_any-requires-clause-others : goal.is_after_any-requires-clause-others
is_after_any-requires-clause-others c =
    let same : c.covers-members.result.now ≡ (condition_at c.args.built.now c.args.condition).covers = c.covers-members.ensures ∙ ap (λ (x : ScheduledCondition). x.covers) c.condition-covering.ensures in
    λ k d low. (member_at c.args.built.now c.prove_law.ensures c.args.condition c.covers-members.result.now same k d low).known

pub returns : goal.returns
returns c =
    let same : c.covers-members.result.now ≡ (condition_at c.args.built.now c.args.condition).covers = c.covers-members.ensures ∙ ap (λ (x : ScheduledCondition). x.covers) c.condition-covering.ensures in
    let none : has c.args.system c.covers-members.result.now ≡ false = rw c.covers-members.ensures (sym c.if-is_covering.ensures) in
    outside_tells c.args.built.now c.prove_law.ensures c.args.condition c.args.system c.covers-members.result.now same none
    c.is_before_each.result c.is_after_any.result c.if-is_before_each.false c.is_before_each.ensures c.is_after_any.ensures
