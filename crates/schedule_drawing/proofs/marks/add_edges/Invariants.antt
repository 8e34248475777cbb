use Rattle.std.proofs.Common.{◌≡◌, ◌++◌, map, take, flat_map}
use Rattle.schedule_drawing.specs.Marks.{edge_untold}
use Rattle.schedule_drawing.proofs.marks.add_edges.Given as goal

-- the edges so far are drawn
abbrev pub invariant-loop-before : goal.invariant-loop-before
invariant-loop-before l = l.shapes.items ≡ l.fn.shapes.items ++ flat_map (edge_untold l.built l.leaders (map (λ members. members.items) l.sets) l.arrows l.system) (take l.before-index l.before-items)
