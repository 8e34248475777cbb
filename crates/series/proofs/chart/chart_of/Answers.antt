use Rattle.std.proofs.Common.{◌≤◌, ℕ, zero, suc, List, [], ◌∷◌, length, drop, map, subst, arith, string_bytes}
use Rattle.std.proofs.lemmas.List.{append-nil}
use Rattle.std.proofs.lemmas.Result.{IfOk-weaker}
use Rattle.std.specs.Borrow.{Bor}
use Rattle.drawing.specs.ChartText.{HasPlots}
use Rattle.drawing.specs.declared.chart.Plot.{Plot}
use Rattle.series.specs.Chart.{ArePlots, HasChart}
use Rattle.series.specs.declared.rows.Row.{Row}
use Rattle.series.proofs.chart.chart_of.Goals as goal

-- behind the last name there is no line
none_left : (names : List (Bor (List ℕ))) (rows : List Row) (number at : ℕ) → length names ≤ at → ArePlots (map (λ name. name.now) (drop at names)) rows number []
none_left [] rows number zero past = tt
none_left [] rows number (suc at) past = tt
none_left (name ∷ names) rows number zero past = absurd (omega arith)
none_left (name ∷ names) rows number (suc at) past = none_left names rows number at (omega arith)

-- the lines are those of the series
pub returns : goal.returns
returns c =
    let plots = c.loop-number.plots.items in
    let names : List (List ℕ) = map (λ name. name.now) c.args.names.now in
    let none = none_left c.args.names.now c.args.rows.now c.loop-number.number c.loop-number.number c.loop-number-test.false in
    IfOk-weaker c.text_of_chart.result _ (HasChart names c.args.rows.now) (λ text drawn. record {
      plots = plots;
      are = subst (ArePlots names c.args.rows.now 0) (append-nil plots) (c.loop-number.invariant [] none);
      drawn = subst (λ (ps : List Plot). HasPlots ps (string_bytes text)) c.as_slice.ensures.value drawn;
    }) c.text_of_chart.ensures
