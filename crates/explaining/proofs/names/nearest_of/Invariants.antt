use Rattle.explaining.specs.Near.{IsNearest}
use Rattle.explaining.proofs.names.nearest_of.Given as goal

-- the nearest of the names so far
abbrev pub invariant-loop-number : goal.invariant-loop-number
invariant-loop-number l = IsNearest l.word l.names l.number l.nearest
