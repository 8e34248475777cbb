use Rattle.archetype_store.proofs.Common.{ℕ, ◌<◌, ◌++◌, [], List, map, ap, sym, ◌∙◌, subst, arith, IsPermutation, take_all, with_number, set_limit, first_numbers, number_seen}
use Rattle.archetype_store.proofs.SortedSets.{numbers_added, added_more, each-moved, sorted_sets}
use Rattle.archetype_store.proofs.kind_sets.sets_of.Goals as goal

pub add-requires : goal.add-requires
add-requires c =
    each-moved (λ n. n < set_limit) c.in_ok-numbers.numbers.items c.deref-number-items.result.now c.loop-number.number-index 0
    (subst (IsPermutation c.in_ok-numbers.numbers.items) (sym c.deref-number-items.ensures.value) c.sort_unstable.ensures.permutation)
    c.in_ok-numbers.ensures.below c.loop-number-test.true

pub loop-number-preserved : goal.loop-number-preserved
loop-number-preserved c =
    c.in_ok-add.ensures.ok ∙ ap (with_number _) c.loop-number.invariant
    ∙ sym (added_more c.deref-number-items.result.now c.loop-number.number-index 0 [] c.loop-number-test.true)

pub returns : goal.returns
returns c =
    let ns = c.deref-number-items.result.now in
    let same : IsPermutation (first_numbers c.args.without ++ map number_seen c.args.views.now) ns =
    subst (IsPermutation (first_numbers c.args.without ++ map number_seen c.args.views.now)) (sym c.deref-number-items.ensures.value)
    (subst (λ (xs : List ℕ). IsPermutation xs c.sort_unstable.new.self.items) c.in_ok-numbers.ensures.numbers c.sort_unstable.ensures.permutation) in
    c.loop-number.invariant ∙ ap (λ (xs : List ℕ). numbers_added xs []) (take_all c.loop-number.number-index ns (omega (arith, c.loop-number-test.false)))
    ∙ sorted_sets c.args.views.now c.args.without ns same
