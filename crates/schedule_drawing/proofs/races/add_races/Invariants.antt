use Rattle.std.proofs.Common.{◌≡◌, ◌++◌, drop, length}
use Rattle.number_set.specs.Members.{contains}
use Rattle.schedule_drawing.specs.Drawn.{races_from, races_shapes}
use Rattle.schedule_drawing.proofs.races.add_races.Given as goal

-- the pairs that are left, behind those that are drawn, make all; and there is room for each number of two boxes
abbrev pub invariant-loop-pair : goal.invariant-loop-pair
invariant-loop-pair l = record {
  drawn : l.shapes.items ++ races_from l.built l.leaders (contains l.drawn) l.left l.lowest.items (drop l.pair-index l.pairs) ≡ l.fn.shapes.items ++ races_shapes l.built l.leaders l.pairs;
  room : length l.drawn ≡ 1025;
}
