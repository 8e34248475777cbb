use Rattle.std.proofs.Common.{◌≡◌, ◌++◌, take, flat_map}
use Rattle.schedule_drawing.specs.Marks.{box_shapes}
use Rattle.schedule_drawing.proofs.drawn.add_boxes.Given as goal

-- those so far are drawn
abbrev pub invariant-loop-system : goal.invariant-loop-system
invariant-loop-system l = l.shapes.items ≡ l.fn.shapes.items ++ flat_map (box_shapes l.built l.holders l.leaders) (take l.system-index l.order)
