use Rattle.std.proofs.Common.{◌≡◌, drop}
use Rattle.schedule_drawing.specs.Arrows.{last_in}
use Rattle.schedule_drawing.proofs.arrows.last_in.Given as goal

-- the systems that are left lead to the last
abbrev pub invariant-loop-system : goal.invariant-loop-system
invariant-loop-system l = last_in l.members l.found (drop l.system-index l.order) ≡ last_in l.members 0 l.order
