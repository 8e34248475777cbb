use Rattle.std.proofs.Common.{nat_lt}
use Rattle.std.specs.List.{IsFirstBest}
use Rattle.cycle_search.proofs.cycle.least_place.Given as goal

abbrev pub invariant-loop-place : goal.invariant-loop-place
invariant-loop-place l = IsFirstBest nat_lt l.items l.place l.least
