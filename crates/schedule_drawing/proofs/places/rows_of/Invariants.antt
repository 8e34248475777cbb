use Rattle.std.proofs.Common.{◌≡◌, drop}
use Rattle.schedule_drawing.specs.Places.{most_rows}
use Rattle.schedule_drawing.proofs.places.rows_of.Given as goal

-- the systems that are left lead to the number of rows
abbrev pub invariant-loop-system : goal.invariant-loop-system
invariant-loop-system l = most_rows l.built l.leaders l.rows (drop l.system-index l.order) ≡ most_rows l.built l.leaders 0 l.built.order
