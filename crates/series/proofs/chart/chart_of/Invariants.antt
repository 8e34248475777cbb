use Rattle.std.proofs.Common.{◌++◌, List, drop, map}
use Rattle.drawing.specs.declared.chart.Plot.{Plot}
use Rattle.series.specs.Chart.{ArePlots}
use Rattle.series.proofs.chart.chart_of.Given as goal

-- the lines that are left make all behind those so far
abbrev pub invariant-loop-number : goal.invariant-loop-number
invariant-loop-number l =
    (more : List Plot) → ArePlots (map (λ name. name.now) (drop l.number l.names)) l.rows l.number more → ArePlots (map (λ name. name.now) l.names) l.rows 0 (l.plots.items ++ more)
