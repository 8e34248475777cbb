use Rattle.archetype_store.proofs.Common.{◌≡◌, ◌≤◌, length, ◌-◌, ℕ, suc, vec_len, place_of, number_of_row}
use Rattle.archetype_store.proofs.locations.reach.Given as goal

abbrev pub invariant-loop-numbers : goal.invariant-loop-numbers
invariant-loop-numbers l = record {
  same : (k : ℕ) → number_of_row l.numbers.items k ≡ number_of_row l.initial.numbers.items k;
  longer : length l.initial.numbers.items ≤ length l.numbers.items;
}

abbrev pub decreases-loop-numbers : goal.decreases-loop-numbers
decreases-loop-numbers l = suc l.index - vec_len l.numbers

abbrev pub invariant-loop-places : goal.invariant-loop-places
invariant-loop-places l = record {
  same : (k : ℕ) → place_of l.places.items k ≡ place_of l.initial.places.items k;
  longer : length l.initial.places.items ≤ length l.places.items;
  as_many : length l.places.items ≤ length l.numbers.items;
}

abbrev pub decreases-loop-places : goal.decreases-loop-places
decreases-loop-places l = suc l.index - vec_len l.places
