-- The lines of a chart.
use Rattle.std.specs.Prelude.{◌≡◌, ◌+◌, ◌*◌, ◌/◌, ◌%◌, ◌-ℤ◌, ℕ, suc, ℤ, max, unsigned_abs, List, [], ◌∷◌, ◌++◌, flat_map, codes, decimal}
use Rattle.drawing.specs.declared.chart.Plot.{Plot}
use Rattle.drawing.specs.declared.chart.Point.{Point}
use Rattle.drawing.specs.declared.chart.Scale.{Scale}

-- where a run stands across: the field of the lines is 1000 wide, from 150 on
abbrev pub across : Scale → ℕ → ℕ
across scale run = 150 + run * 1000 / max scale.last 1

-- how far two numbers are apart
abbrev pub distance : ℤ → ℤ → ℕ
distance a b = unsigned_abs (a -ℤ b)

-- where a value stands, from above: the field is 400 high, from 20 on
abbrev pub y_of : Scale → ℤ → ℕ
y_of scale value = 20 + distance scale.high value * 400 / max (distance scale.high scale.low) 1

-- the place of a point
abbrev pub place_text : Scale → Point → List ℕ
place_text scale point = 32 ∷ decimal (across scale point.run) ++ (44 ∷ decimal (y_of scale point.value))

-- the line of a number: all its points, in order
abbrev pub line_text : Scale → ℕ → List Point → List ℕ
line_text scale number points =
    codes "<polyline class='c" ++ (decimal (number % 8) ++ (codes " d" ++ (decimal (number % 4) ++ codes "' points='"))) ++ flat_map (place_text scale) points ++ (codes "'/>" ++ 10 ∷ [])

-- some lines, of which the first has this number
abbrev pub plots_text : Scale → ℕ → List Plot → List ℕ
plots_text scale number [] = []
plots_text scale number (plot ∷ plots) = line_text scale number plot.points.items ++ plots_text scale (suc number) plots

-- a text ends with these lines, each once and in order, at the places that some edges give
pub record HasPlots (plots : List Plot) (text : List ℕ) : Type 0 where
  pub scale : Scale
  pub before : List ℕ
  pub is : text ≡ before ++ plots_text scale 0 plots ++ (codes "</svg>" ++ 10 ∷ [])
