use Rattle.std.proofs.Common.{◌≡◌, ◌++◌, map, take, flat_map}
use Rattle.schedule_drawing.specs.Marks.{arrow_shapes}
use Rattle.schedule_drawing.proofs.drawn.add_arrows.Given as goal

-- those so far are drawn
abbrev pub invariant-loop-arrow : goal.invariant-loop-arrow
invariant-loop-arrow l = l.shapes.items ≡ l.fn.shapes.items ++ flat_map (arrow_shapes l.built (map (λ members. members.items) l.sets)) (take l.arrow-index l.arrows)
