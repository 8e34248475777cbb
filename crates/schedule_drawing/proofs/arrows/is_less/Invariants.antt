use Rattle.std.proofs.Common.{◌≡◌, map, drop}
use Rattle.schedule_drawing.specs.Arrows.{is_less_from}
use Rattle.schedule_drawing.proofs.arrows.is_less.Given as goal

-- the sets that are left lead to the answer
abbrev pub invariant-loop-members : goal.invariant-loop-members
invariant-loop-members l = is_less_from l.built (map (λ members. members.items) l.sets) l.from l.to l.number (map (λ members. members.items) (drop l._members-index l.sets)) ≡ is_less_from l.built (map (λ members. members.items) l.sets) l.from l.to 0 (map (λ members. members.items) l.sets)
