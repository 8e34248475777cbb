use Rattle.std.proofs.Common.{take}
use Rattle.model.specs.declarations.Edges.{HasNoLoop}
use Rattle.system_set.specs.Pairs.{pairs_of}
use Rattle.schedule_builder.proofs.orders.first_loop.Given as goal

abbrev pub invariant-loop-order : goal.invariant-loop-order
invariant-loop-order l = HasNoLoop (pairs_of (take l.order-index l.orders))
