use Rattle.std.proofs.Common.{◌≡◌, ◌++◌, drop}
use Rattle.schedule_drawing.specs.Folding.{leaders_from, leaders_of}
use Rattle.schedule_drawing.proofs.folding.leaders_of.Given as goal

-- the systems that are left, behind those whose leaders are known, make all
abbrev pub invariant-loop-system : goal.invariant-loop-system
invariant-loop-system l = l.leaders.items ++ leaders_from l.built l.holders l.number (drop l._system-index l.systems) ≡ leaders_of l.built l.holders
