use Rattle.std.proofs.Common.{◌≡◌, drop}
use Rattle.schedule_drawing.specs.Drawn.{lowest_from}
use Rattle.schedule_drawing.proofs.drawn.lowest_of.Given as goal

-- the shapes that are left lead to the lowest
abbrev pub invariant-loop-shape : goal.invariant-loop-shape
invariant-loop-shape l = lowest_from l.lowest (drop l.shape-index l.shapes) ≡ lowest_from 0 l.shapes
