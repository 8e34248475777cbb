use Rattle.system_set.specs.Pairs.{AreMarked}
use Rattle.system_set.proofs.members.marked_systems.Given as goal

abbrev pub invariant-loop-item : goal.invariant-loop-item
invariant-loop-item l = AreMarked l.sets l.marks l.item l.members.items
