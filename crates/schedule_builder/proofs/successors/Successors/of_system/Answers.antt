use Rattle.std.proofs.Common.{ℕ, ◌+◌, ◌<◌, ◌≡◌, true, [], List, get_or, sym, ap, ◌∙◌, subst}
use Rattle.std.proofs.lemmas.Bool.{both_ways}
use Rattle.std.proofs.lemmas.List.{get_or_default}
use Rattle.number_set.specs.Members.{contains}
use Rattle.schedule_builder.specs.Counts.{IsListing}
use Rattle.schedule_builder.proofs.Counted.{listing_more, listing_same}
use Rattle.schedule_builder.proofs.successors.Successors.of_system.Goals as goal
use Rattle.schedule_builder.proofs.successors.Successors.of_system.Goals.{then-contains+in_ok-push, else-contains}

pub loop-number-preserved : goal.loop-number-preserved
loop-number-preserved c =
    let before : List (List ℕ) = c.args.before.now in
    let n : ℕ = c.loop-number.number in
    let system : ℕ = c.args.system in
    let xs : List ℕ = c.loop-number.systems.items in
    let read : get_or before n [] ≡ c.index-before-number.result = get_or_default before n [] c.index-before-number.result c.loop-number-test.true ∙ sym c.index-before-number.is in
    let tells = ap (λ (row : List ℕ). contains row system) read in
    elim c.if-contains.branch [
      | then-contains+in_ok-push w ↦
          listing_more (λ m. contains (get_or before m []) system ≡ true) n xs _ c.loop-number.invariant (ap (λ v. v.items) w.systems-is ∙ w.in_ok-push.ensures.items) (tells ∙ sym w.if-contains.ensures)
      | else-contains w ↦
          subst (λ (ys : List ℕ). IsListing (λ m. (m < n + 1) × (contains (get_or before m []) system ≡ true)) ys) (sym (ap (λ v. v.items) w.systems-is))
          (listing_same (λ m. contains (get_or before m []) system ≡ true) n xs c.loop-number.invariant (λ e. both_ways _ (tells ∙ sym w.if-contains.ensures) e))
    ]
