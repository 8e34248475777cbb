use Rattle.std.proofs.Common.{◌≡◌, ◌++◌, map, drop}
use Rattle.schedule_drawing.specs.Arrows.{arrows_from}
use Rattle.schedule_drawing.proofs.arrows.every_arrow.Given as goal

-- the sets that are left, behind the arrows so far, make all
abbrev pub invariant-loop-members : goal.invariant-loop-members
invariant-loop-members l = l.arrows.items ++ arrows_from l.built (map (λ members. members.items) l.sets) l.number (map (λ members. members.items) (drop l._members-index l.sets)) ≡ arrows_from l.built (map (λ members. members.items) l.sets) 0 (map (λ members. members.items) l.sets)
