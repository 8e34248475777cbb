use Rattle.std.proofs.Common.{◌≡◌, take}
use Rattle.model.specs.declarations.Declarations.{items_of, from_each}
use Rattle.schedule_builder.proofs.Askings.{owner_times}
use Rattle.schedule_builder.proofs.condition_faults.owners_of.Given as goal

abbrev pub invariant-loop-number : goal.invariant-loop-number
invariant-loop-number l = l.owners.items ≡ from_each owner_times 0 (take l.number (items_of l.desc))
