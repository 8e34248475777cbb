use Rattle.std.proofs.Common.{take}
use Rattle.model.specs.declarations.Edges.{HasNoCrossing}
use Rattle.system_set.specs.Pairs.{pairs_of, hierarchy_of}
use Rattle.system_set.proofs.crossings.first_crossing.Given as goal

abbrev pub invariant-loop-order : goal.invariant-loop-order
invariant-loop-order l = HasNoCrossing (hierarchy_of l.sets l.items l.pairs) (pairs_of (take l.order-index l.orders))
