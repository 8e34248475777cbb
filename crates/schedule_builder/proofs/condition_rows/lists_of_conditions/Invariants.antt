use Rattle.std.proofs.Common.{ℕ, ◌<◌, ◌≡◌, [], length, get_or}
use Rattle.schedule_builder.specs.Conditions.{IsCovering, IsRisingListing}
use Rattle.schedule_builder.proofs.condition_rows.lists_of_conditions.Given as goal

abbrev pub invariant-loop-system : goal.invariant-loop-system
invariant-loop-system l = record {
  long : length l.lists.items ≡ l.system;
  each : (n : ℕ) → n < l.system → IsRisingListing (IsCovering l.conditions n) (get_or l.lists.items n []);
}
