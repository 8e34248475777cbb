-- The text of a witness.
use Rattle.std.proofs.Common.{◌≡◌, ℕ, List, ◌++◌, refl, ap, subst, ◌∙◌, append_assoc, string_bytes}
use Rattle.ambiguity_report.specs.declared.report.Pair.{Pair}
use Rattle.findings.specs.Texts.{IsDifference, IsWitnessText, orders_text}
use Rattle.findings.specs.declared.witness.Witness.{Witness}

-- behind both lists comes what is said of their worlds
pub told_witness : (names : List (List ℕ)) (number : ℕ) (pair : Pair) (w : Witness) (one other old mid new : List ℕ) → one ≡ string_bytes w.before.world → other ≡ string_bytes w.behind.world → mid ≡ old ++ orders_text names number pair w
    → (rest : List ℕ) × IsDifference one other rest × (new ≡ mid ++ rest) → (more : List ℕ) × IsWitnessText names number pair w more × (new ≡ old ++ more)
told_witness names number pair w one other old mid new is_one is_other orders told =
    let lists = orders_text names number pair w in
    let said : IsDifference (string_bytes w.before.world) (string_bytes w.behind.world) told.0 =
    subst (λ (x : List ℕ). IsDifference x (string_bytes w.behind.world) told.0) is_one (subst (λ (y : List ℕ). IsDifference one y told.0) is_other told.1) in
    (lists ++ told.0, (told.0, said, refl), told.2 ∙ (ap (λ (words : List ℕ). words ++ told.0) orders ∙ append_assoc old lists told.0))
