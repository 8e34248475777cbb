use Rattle.std.proofs.Common.{◌≡◌, drop}
use Rattle.schedule_drawing.specs.Places.{row_from}
use Rattle.schedule_drawing.proofs.places.row_in_order.Given as goal

-- the systems that are left lead to the row
abbrev pub invariant-loop-other : goal.invariant-loop-other
invariant-loop-other l = row_from l.built l.leaders l.level l.leader l.row (drop l.other-index l.order) ≡ row_from l.built l.leaders l.level l.leader 0 l.built.order
