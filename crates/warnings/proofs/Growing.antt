-- Lines that grow by one.
use Rattle.std.proofs.Common.{ℕ, List, [], ◌∷◌, ◌++◌, ap, refl, ◌∙◌, append_assoc}
use Rattle.lints.specs.declared.lint.Lint.{Lint}
use Rattle.warnings.specs.Lines.{AreLines, IsLine}

pub one_more : (before : List Lint) (found : Lint) (text line : List ℕ) → AreLines before text → IsLine found line → AreLines (before ++ found ∷ []) (text ++ line ++ 10 ∷ [])
one_more [] found text line are is = (line, [], ap (λ t. t ++ line ++ 10 ∷ []) are, is, refl)
one_more (x ∷ before) found text line are is =
    (are.0, are.1 ++ line ++ 10 ∷ [], ap (λ t. t ++ line ++ 10 ∷ []) are.2 ∙ (ap (λ t. t ++ 10 ∷ []) (append_assoc are.0 (10 ∷ are.1) line) ∙ append_assoc are.0 (10 ∷ are.1 ++ line) (10 ∷ [])), are.3, one_more before found are.1 line are.4 is)
