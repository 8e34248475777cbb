use Rattle.std.proofs.Common.{◌++◌, [], ◌∷◌, ℕ, List, codes, ap, ◌∙◌, string_bytes}
use Rattle.drawing.proofs.chart.text_of_chart.Goals as goal

-- the lines stand behind the axes and the legend
pub returns : goal.returns
returns c = record {
  scale = c.scale_of-scale.result;
  before = string_bytes c.push_frame.new.text;
  is = c.in_ok-push_str.ensures.bytes ∙ ap (λ (xs : List ℕ). xs ++ (codes "</svg>" ++ 10 ∷ [])) c.in_ok-push_plots.ensures;
}
