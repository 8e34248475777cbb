use Rattle.std.proofs.Common.{◌≡◌, ◌++◌, take, flat_map}
use Rattle.model.specs.declarations.Declarations.{items_of, plain_orders_in, plain_orders_along, from_each}
use Rattle.system_set.specs.Pairs.{pairs_of}
use Rattle.schedule_builder.proofs.orders.plain_orders_of.Given as goal

abbrev pub invariant-loop-number : goal.invariant-loop-number
invariant-loop-number l = pairs_of l.orders.items ≡ from_each (plain_orders_in l.desc) 0 (take l.number (items_of l.desc))

abbrev pub invariant-loop-chain : goal.invariant-loop-chain
invariant-loop-chain l = pairs_of l.orders.items ≡ from_each (plain_orders_in l.desc) 0 (items_of l.desc) ++ flat_map (plain_orders_along l.desc) (take l.chain-index l.chains)
