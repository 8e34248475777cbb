use Rattle.std.proofs.Common.{◌≡◌, ◌++◌, map, drop}
use Rattle.schedule_drawing.specs.Drawn.{sets_from}
use Rattle.schedule_drawing.proofs.drawn.add_sets.Given as goal

-- the sets that are left, behind those that are drawn, make all
abbrev pub invariant-loop-members : goal.invariant-loop-members
invariant-loop-members l = l.shapes.items ++ sets_from l.built l.leaders l.number (map (λ members. members.items) (drop l.members-index l.sets)) ≡ l.fn.shapes.items ++ sets_from l.built l.leaders 0 (map (λ members. members.items) l.sets)
