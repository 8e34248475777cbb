use Rattle.std.proofs.Common.{ℕ, ◌<◌, true, ◌≡◌, [], length, get_or}
use Rattle.number_set.specs.Members.{contains}
use Rattle.schedule_builder.specs.Counts.{IsListing}
use Rattle.schedule_builder.proofs.counts.lists_after.Given as goal

abbrev pub invariant-loop-number : goal.invariant-loop-number
invariant-loop-number l = record {
  long : length l.lists.items ≡ l.number;
  each : (n : ℕ) → n < l.number → IsListing (λ m. (m < length l.before) × (contains (get_or l.before m []) n ≡ true)) (get_or l.lists.items n []);
}
