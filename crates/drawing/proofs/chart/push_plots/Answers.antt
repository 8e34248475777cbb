use Rattle.std.proofs.Common.{◌≡◌, ◌<◌, ◌+◌, ℕ, zero, suc, List, [], ◌∷◌, ◌++◌, length, drop, get_or, sym, ap, subst, ◌∙◌, append_assoc, arith, string_bytes}
use Rattle.drawing.specs.ChartText.{line_text, plots_text}
use Rattle.drawing.specs.declared.chart.Plot.{Plot}
use Rattle.drawing.specs.declared.chart.Point.{Point}
use Rattle.drawing.specs.declared.chart.Scale.{Scale}
use Rattle.drawing.proofs.chart.push_plots.Goals as goal

-- a line leads on to those behind it
lines_from : (scale : Scale) (number i : ℕ) (plots : List Plot) (d : Plot) (text later : List ℕ) → i < length plots → later ≡ text ++ line_text scale number (get_or plots i d).points.items
    → later ++ plots_text scale (suc number) (drop (suc i) plots) ≡ text ++ plots_text scale number (drop i plots)
lines_from scale number i [] d text later known is = absurd (omega arith)
lines_from scale number zero (p ∷ plots) d text later known is = ap (λ (xs : List ℕ). xs ++ plots_text scale (suc number) plots) is ∙ append_assoc text _ _
lines_from scale number (suc i) (p ∷ plots) d text later known is = lines_from scale number i plots d text later (omega arith) is

next : (i : ℕ) → i + 1 ≡ suc i
next i = omega arith

-- a line more
pub loop-number-preserved : goal.loop-number-preserved
loop-number-preserved c =
    let text = string_bytes c.loop-number.text in
    let drawn = string_bytes c.push_plot.new.text in
    let pointed = c.as_slice.ensures.value ∙ ap (λ (p : Plot). p.points.items) c.index-plots-number.is in
    subst (λ n. drawn ++ plots_text c.args.scale n (drop n c.args.plots.now) ≡ string_bytes c.args.text.now ++ plots_text c.args.scale 0 c.args.plots.now) (sym (next c.loop-number.number))
    (lines_from c.args.scale c.loop-number.number c.loop-number.number c.args.plots.now c.index-plots-number.result text drawn c.loop-number-test.true
    (c.in_ok-push_plot.ensures ∙ ap (λ (points : List Point). text ++ line_text c.args.scale c.loop-number.number points) pointed)
    ∙ c.loop-number.invariant)
