use Rattle.std.proofs.Common.{take}
use Rattle.query_plan.specs.Marks.{AreMarksAmong}
use Rattle.query_plan.proofs.index_walk.mark.Given as goal

-- the marks so far are those of the archetypes so far
abbrev pub invariant-loop-archetype : goal.invariant-loop-archetype
invariant-loop-archetype l = AreMarksAmong l.query l.world.layout (take l.archetype-index l.archetypes) l.marks.items
