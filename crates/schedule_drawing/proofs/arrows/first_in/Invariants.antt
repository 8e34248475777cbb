use Rattle.std.proofs.Common.{◌≡◌, drop}
use Rattle.schedule_drawing.specs.Arrows.{first_in}
use Rattle.schedule_drawing.proofs.arrows.first_in.Given as goal

-- the systems that are left lead to the first
abbrev pub invariant-loop-system : goal.invariant-loop-system
invariant-loop-system l = first_in l.members (drop l.system-index l.order) ≡ first_in l.members l.order
