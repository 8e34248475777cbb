use Rattle.cycle_search.specs.Cycles.{PointsOnBy}
use Rattle.cycle_search.proofs.ranks.open_seconds.Given as goal

abbrev pub invariant-loop-order : goal.invariant-loop-order
invariant-loop-order l = PointsOnBy l.orders l.ranks l.next.items l.order-index
