use Rattle.std.proofs.Common.{◌≡◌, ◌++◌, take, flat_map}
use Rattle.model.specs.declarations.Declarations.{items_of, orders_in, orders_along, from_each}
use Rattle.system_set.specs.Pairs.{pairs_of}
use Rattle.schedule_builder.proofs.orders.orders_of.Given as goal

abbrev pub invariant-loop-number : goal.invariant-loop-number
invariant-loop-number l = pairs_of l.orders.items ≡ from_each (orders_in l.desc) 0 (take l.number (items_of l.desc))

abbrev pub invariant-loop-chain : goal.invariant-loop-chain
invariant-loop-chain l = pairs_of l.orders.items ≡ from_each (orders_in l.desc) 0 (items_of l.desc) ++ flat_map (orders_along l.desc) (take l.chain-index l.chains)
