use Rattle.std.proofs.Common.{◌≡◌, ◌++◌, map, take}
use Rattle.system_set.specs.Pairs.{pairs_of}
use Rattle.schedule_builder.proofs.Lookups.{after_name}
use Rattle.schedule_builder.proofs.orders.push_after.Given as goal

abbrev pub invariant-loop-name : goal.invariant-loop-name
invariant-loop-name l = pairs_of l.orders.items ≡ pairs_of l.fn.orders.items ++ map (after_name l.desc l.number) (take l.name-index l.names)
