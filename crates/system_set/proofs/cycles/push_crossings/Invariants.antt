use Rattle.std.proofs.Common.{◌≡◌, ◌++◌, map, take}
use Rattle.system_set.specs.Nodes.{cross_step}
use Rattle.system_set.proofs.cycles.push_crossings.Given as goal

abbrev pub invariant-loop-order : goal.invariant-loop-order
invariant-loop-order l = l.steps.items ≡ l.fn.steps.items ++ map (cross_step l.sets l.items) (take l.order-index l.orders)
