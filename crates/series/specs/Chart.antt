-- Rows as a chart.
use Rattle.std.specs.Prelude.{ℕ, suc, pos, ◌≡◌, ◌==◌, ◌+◌, ◌-◌, ◌/◌, ◌%◌, cond, List, [], ◌∷◌, get_or, length, string_bytes}
use Rattle.std.specs.declared.string.String.{String}
use Rattle.std.specs.declared.alloc.Global.{Global}
use Rattle.drawing.specs.ChartText.{HasPlots}
use Rattle.drawing.specs.declared.chart.Plot.{Plot}
use Rattle.drawing.specs.declared.chart.Point.{Point}
use Rattle.series.specs.declared.rows.Row.{Row}

-- the point of the series of a number in a row
abbrev pub point_of : ℕ → Row → Point
point_of number row = record { run = row.run; value = get_or row.values.items number (pos 0) }

-- those in every so many-th row, where the first has this number
abbrev pub thinned : ℕ → ℕ → ℕ → List Row → List Point
thinned number step at [] = []
thinned number step at (row ∷ rows) = cond (at % step == 0) (point_of number row ∷ thinned number step (suc at) rows) (thinned number step (suc at) rows)

-- which rows are shown: each of up to 1,000, every second one of up to 2,000, and so on
abbrev pub step_for : ℕ → ℕ
step_for count = (count - 1) / 1000 + 1

-- a line for each series, the first with this number: its name, and its points in those rows
abbrev pub ArePlots : List (List ℕ) → List Row → ℕ → List Plot → Type 0
ArePlots [] rows number [] = Unit {0}
ArePlots (name ∷ names) rows number (plot ∷ plots) =
    (plot.name.now ≡ name) × (plot.points.items ≡ thinned number (step_for (length rows)) 0 rows) × ArePlots names rows (suc number) plots
ArePlots _ rows number _ = ⊥

-- the text draws these lines
pub record HasChart (names : List (List ℕ)) (rows : List Row) (text : String Global) : Type 0 where
  pub plots : List Plot
  pub are : ArePlots names rows 0 plots
  pub drawn : HasPlots plots (string_bytes text)
