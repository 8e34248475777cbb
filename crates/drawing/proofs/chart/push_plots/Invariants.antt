use Rattle.std.proofs.Common.{◌≡◌, ◌++◌, drop, string_bytes}
use Rattle.drawing.specs.ChartText.{plots_text}
use Rattle.drawing.proofs.chart.push_plots.Given as goal

-- the lines that are left, behind those so far, are all
abbrev pub invariant-loop-number : goal.invariant-loop-number
invariant-loop-number l = string_bytes l.text ++ plots_text l.scale l.number (drop l.number l.plots) ≡ string_bytes l.fn.text ++ plots_text l.scale 0 l.plots
