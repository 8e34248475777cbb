use Rattle.system_set.specs.Pairs.{pairs_of}
use Rattle.schedule_builder.proofs.Lookups.{IsAlong}
use Rattle.schedule_builder.proofs.orders.push_along.Given as goal

abbrev pub invariant-loop-name : goal.invariant-loop-name
invariant-loop-name l = IsAlong l.desc (pairs_of l.fn.orders.items) l.names l.name-index l.previous (pairs_of l.orders.items)
