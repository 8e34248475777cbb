use Rattle.std.proofs.Common.{◌≡◌, drop}
use Rattle.schedule_drawing.specs.Marks.{place_from}
use Rattle.schedule_drawing.proofs.marks.place_among.Given as goal

-- the conditions that are left lead to the place
abbrev pub invariant-loop-other : goal.invariant-loop-other
invariant-loop-other l = place_from l.system l.place l.left (drop l.other-index l.conditions) ≡ place_from l.system 0 l.condition l.conditions
