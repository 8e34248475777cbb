use Rattle.std.proofs.Common.{◌≡◌, ◌++◌, map, drop}
use Rattle.schedule_drawing.specs.Arrows.{arrows_to}
use Rattle.schedule_drawing.proofs.arrows.add_arrows.Given as goal

-- the sets that are left, behind the arrows so far, make all
abbrev pub invariant-loop-members : goal.invariant-loop-members
invariant-loop-members l = l.arrows.items ++ arrows_to l.built (map (λ members. members.items) l.sets) l.from l.number (map (λ members. members.items) (drop l._members-index l.sets)) ≡ l.fn.arrows.items ++ arrows_to l.built (map (λ members. members.items) l.sets) l.from 0 (map (λ members. members.items) l.sets)
