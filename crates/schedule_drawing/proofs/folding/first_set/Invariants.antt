use Rattle.std.proofs.Common.{◌≡◌, map, drop}
use Rattle.schedule_drawing.specs.Folding.{first_from}
use Rattle.schedule_drawing.proofs.folding.first_set.Given as goal

-- the sets that are left lead to the first
abbrev pub invariant-loop-members : goal.invariant-loop-members
invariant-loop-members l = first_from l.system l.number (map (λ members. members.items) (drop l.members-index l.sets)) ≡ first_from l.system 0 (map (λ members. members.items) l.sets)
