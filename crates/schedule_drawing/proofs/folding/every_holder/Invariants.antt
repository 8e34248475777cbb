use Rattle.std.proofs.Common.{◌≡◌, ◌++◌, map, drop}
use Rattle.schedule_drawing.specs.Folding.{holders_from}
use Rattle.schedule_drawing.proofs.folding.every_holder.Given as goal

-- the systems that are left, behind those whose holders are known, make all
abbrev pub invariant-loop-system : goal.invariant-loop-system
invariant-loop-system l = l.holders.items ++ holders_from (map (λ members. members.items) l.sets) l.number (drop l._system-index l.systems) ≡ holders_from (map (λ members. members.items) l.sets) 0 l.built.systems
