use Rattle.std.proofs.Common.{◌≡◌, ◌++◌, map, take}
use Rattle.system_set.specs.Nodes.{enter_step}
use Rattle.system_set.proofs.cycles.push_enters.Given as goal

abbrev pub invariant-loop-pair : goal.invariant-loop-pair
invariant-loop-pair l = l.steps.items ≡ l.fn.steps.items ++ map (enter_step l.sets l.items) (take l.pair-index l.pairs)
