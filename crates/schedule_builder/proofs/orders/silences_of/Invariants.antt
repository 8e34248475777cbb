use Rattle.std.proofs.Common.{◌≡◌, take}
use Rattle.model.specs.declarations.Declarations.{items_of, silences_in, from_each}
use Rattle.system_set.specs.Pairs.{pairs_of}
use Rattle.schedule_builder.proofs.orders.silences_of.Given as goal

abbrev pub invariant-loop-number : goal.invariant-loop-number
invariant-loop-number l = pairs_of l.pairs.items ≡ from_each (silences_in l.desc) 0 (take l.number (items_of l.desc))
