use Rattle.std.proofs.Common.{◌≡◌, ◌++◌, take, flat_map}
use Rattle.schedule_drawing.specs.Marks.{frame_shapes}
use Rattle.schedule_drawing.proofs.drawn.add_frames.Given as goal

-- those so far are drawn
abbrev pub invariant-loop-member : goal.invariant-loop-member
invariant-loop-member l = l.shapes.items ≡ l.fn.shapes.items ++ flat_map (frame_shapes l.built l.leaders l.members l.set) (take l.member-index l.members)
