use Rattle.std.proofs.Common.{◌≡◌, ◌++◌, map, take, flat_map}
use Rattle.schedule_drawing.specs.Marks.{edges_shapes}
use Rattle.schedule_drawing.proofs.drawn.add_all_edges.Given as goal

-- those so far are drawn
abbrev pub invariant-loop-system : goal.invariant-loop-system
invariant-loop-system l = l.shapes.items ≡ l.fn.shapes.items ++ flat_map (edges_shapes l.built l.leaders (map (λ members. members.items) l.sets) l.arrows) (take l.system-index l.order)
