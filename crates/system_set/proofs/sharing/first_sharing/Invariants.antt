use Rattle.std.proofs.Common.{take}
use Rattle.model.specs.declarations.Edges.{AreApart}
use Rattle.system_set.specs.Pairs.{pairs_of, hierarchy_of}
use Rattle.system_set.proofs.sharing.first_sharing.Given as goal

abbrev pub invariant-loop-order : goal.invariant-loop-order
invariant-loop-order l = AreApart (hierarchy_of l.sets l.items l.pairs) (pairs_of (take l.order-index l.orders))
