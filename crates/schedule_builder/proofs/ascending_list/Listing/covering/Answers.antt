use Rattle.std.proofs.Common.{ℕ, ◌+◌, ◌<◌, ◌↔◌, true, ◌≡◌, List, sym, ap, ◌∙◌, subst}
use Rattle.std.proofs.lemmas.Bool.{both_ways}
use Rattle.model.specs.Lists.{has}
use Rattle.model.specs.declarations.Hierarchy.{IsRising}
use Rattle.model.specs.steps.Schedule.{ScheduledCondition}
use Rattle.system_set.proofs.Reaching.{rising_push}
use Rattle.schedule_builder.specs.Conditions.{IsCovering}
use Rattle.schedule_builder.proofs.Listings.{read_condition, named_more, named_same, covering_all}
use Rattle.schedule_builder.proofs.ascending_list.Listing.covering.Goals as goal
use Rattle.schedule_builder.proofs.ascending_list.Listing.covering.Goals.{then-is_covering+in_ok-push, else-is_covering}

pub loop-number-preserved : goal.loop-number-preserved
loop-number-preserved c =
    let conditions = c.args.conditions.now in
    let n : ℕ = c.loop-number.number in
    let system : ℕ = c.args.system in
    let xs = c.loop-number.numbers.items in
    let read = read_condition conditions n c.index-conditions-number.result c.loop-number-test.true c.index-conditions-number.is in
    let tells = ap (λ (x : ScheduledCondition). has system x.covers) read in
    elim c.if-is_covering.branch [
      | then-is_covering+in_ok-push w ↦
          let pushed = ap (λ v. v.items) w.numbers-is ∙ w.in_ok-push.ensures.items in
          let here : IsCovering conditions system n = tells ∙ sym w.if-is_covering.ensures in
          record {
            names = subst (λ (ys : List ℕ). (m : ℕ) → (has m ys ≡ true) ↔ ((m < n + 1) × IsCovering conditions system m)) (sym pushed) (named_more (IsCovering conditions system) xs n here c.loop-number.invariant.names);
            rising = subst IsRising (sym pushed) (rising_push xs n c.loop-number.invariant.rising (λ m e. let found = (c.loop-number.invariant.names m).0 e in found.0));
          }
      | else-is_covering w ↦
          let same = ap (λ v. v.items) w.numbers-is in
          let none : IsCovering conditions system n → ⊥ = λ e. both_ways _ (tells ∙ sym w.if-is_covering.ensures) e in
          record {
            names = subst (λ (ys : List ℕ). (m : ℕ) → (has m ys ≡ true) ↔ ((m < n + 1) × IsCovering conditions system m)) (sym same) (named_same (IsCovering conditions system) xs n none c.loop-number.invariant.names);
            rising = subst IsRising (sym same) c.loop-number.invariant.rising;
          }
    ]

pub returns : goal.returns
returns c = record {
  names = covering_all c.args.conditions.now c.args.system c.loop-number.number c.loop-number.numbers.items c.loop-number-test.false c.loop-number.invariant.names;
  rising = c.loop-number.invariant.rising;
}
