use Rattle.archetype_store.proofs.Common.{◌≡◌, ◌<◌, ◌++◌, map, take, AllByRecursion, set_limit, first_numbers, number_seen}
use Rattle.archetype_store.proofs.kind_sets.numbers_of.Given as goal

-- the numbers of the archetypes so far
abbrev pub invariant-loop-view : goal.invariant-loop-view
invariant-loop-view l = record {
  numbers : l.numbers.items ≡ first_numbers l.without ++ map number_seen (take l.view-index l.views);
  below : AllByRecursion (λ n. n < set_limit) l.numbers.items;
}
