use Rattle.std.proofs.Common.{◌<◌, true, ◌≡◌, [], get_or}
use Rattle.number_set.specs.Members.{contains}
use Rattle.schedule_builder.specs.Counts.{IsListing}
use Rattle.schedule_builder.proofs.successors.Successors.of_system.Given as goal

abbrev pub invariant-loop-number : goal.invariant-loop-number
invariant-loop-number l = IsListing (λ m. (m < l.number) × (contains (get_or l.before m []) l.system ≡ true)) l.systems.items
