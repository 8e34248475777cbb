use Rattle.std.proofs.Common.{◌≡◌, ◌++◌, drop}
use Rattle.series.specs.Chart.{thinned}
use Rattle.series.proofs.chart.points_of.Given as goal

-- the points that are left, behind those so far, are all
abbrev pub invariant-loop-at : goal.invariant-loop-at
invariant-loop-at l = l.points.items ++ thinned l.number l.step l.at (drop l.at l.rows) ≡ thinned l.number l.step 0 l.rows
