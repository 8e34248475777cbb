use Rattle.std.proofs.Common.{◌≡◌, take}
use Rattle.system_set.specs.Nodes.{items_among}
use Rattle.system_set.proofs.cycles.items_in.Given as goal

abbrev pub invariant-loop-node : goal.invariant-loop-node
invariant-loop-node l = l.found.items ≡ items_among l.items (take l.node-index l.nodes)
