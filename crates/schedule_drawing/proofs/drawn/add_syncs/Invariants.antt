use Rattle.std.proofs.Common.{◌≡◌, ◌++◌}
use Rattle.schedule_drawing.specs.Drawn.{syncs_from}
use Rattle.schedule_drawing.proofs.drawn.add_syncs.Given as goal

-- the sync points that are left, behind those that are drawn, make all
abbrev pub invariant-loop-left : goal.invariant-loop-left
invariant-loop-left l = l.shapes.items ++ syncs_from l.bottom l.point l.left ≡ l.fn.shapes.items ++ syncs_from l.bottom 0 l.count

abbrev pub decreases-loop-left : goal.decreases-loop-left
decreases-loop-left l = l.left
