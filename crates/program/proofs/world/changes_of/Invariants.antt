use Rattle.std.proofs.Common.{map, take}
use Rattle.program.specs.Load.{entity_given, AreGiven}
use Rattle.program.proofs.world.changes_of.Given as goal

-- the ids so far live
abbrev pub invariant-loop-index : goal.invariant-loop-index
invariant-loop-index l = AreGiven (take l.index l.ids) (map entity_given (take l.index l.entities)) l.changes.items
