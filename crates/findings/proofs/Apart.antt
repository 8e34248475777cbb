-- Where two lists differ first, and two texts.
use Rattle.std.proofs.Common.{◌≡◌, ℕ, zero, suc, ◌+◌, ◌<◌, List, [], ◌∷◌, ◌++◌, length, take, refl, ap, ap₂, ◌∙◌, sym, subst, inl, inr, arith}
use Rattle.std.specs.Prelude.{◌≢◌, ◌⊎◌}
use Rattle.std.specs.List.{slice_get}
use Rattle.std.specs.Str.Lines.{lines}
use Rattle.findings.specs.Apart.{IsFirstApart}
use Rattle.findings.specs.Texts.{IsDifference, apart_text}

-- one more that is the same
more_same : {A : Type 0} (xs ys : List A) (i : ℕ) → i < length xs → slice_get xs i ≡ slice_get ys i → take i xs ≡ take i ys → take (suc i) xs ≡ take (suc i) ys
more_same [] ys i low same before = absurd (omega arith)
more_same (x ∷ xs) [] zero low same before = cc
more_same (x ∷ xs) [] (suc i) low same before = cc
more_same (x ∷ xs) (y ∷ ys) zero low same before = let e : x ≡ y = cc in ap (λ z. z ∷ []) e
more_same (x ∷ xs) (y ∷ ys) (suc i) low same before =
    let e : x ≡ y = cc in
    let rest : take i xs ≡ take i ys = cc in
    ap₂ (λ z zs. z ∷ zs) e (more_same xs ys i (omega arith) same rest)

pub same_next : {A : Type 0} (xs ys : List A) (i : ℕ) → i < length xs → slice_get xs i ≡ slice_get ys i → take i xs ≡ take i ys → take (i + 1) xs ≡ take (i + 1) ys
same_next xs ys i low same before =
    let e : i + 1 ≡ suc i = omega arith in
    ap (λ k. take k xs) e ∙ (more_same xs ys i low same before ∙ ap (λ k. take k ys) (sym e))

-- all of the first is the same: the other has more, or both are the same
pub same_all : {A : Type 0} (xs ys : List A) → take (length xs) xs ≡ take (length xs) ys → (slice_get xs (length xs) ≢ slice_get ys (length xs)) ⊎ ((length xs ≡ length xs) × (xs ≡ ys))
same_all [] [] before = inr (refl, refl)
same_all [] (y ∷ ys) before = inl (λ e. cc)
same_all (x ∷ xs) [] before = cc
same_all (x ∷ xs) (y ∷ ys) before =
    let e : x ≡ y = cc in
    let rest : take (length xs) xs ≡ take (length xs) ys = cc in
    elim (same_all xs ys rest) [
      | inl apart ↦ inl apart
      | inr same ↦ inr (refl, ap₂ (λ z zs. z ∷ zs) e same.1)
    ]

-- two texts differ, and their first lines that do are told
pub told_apart : (one other : List ℕ) (ones others : List (List ℕ)) (place : ℕ) (old new : List ℕ) → one ≢ other → ones ≡ lines one → others ≡ lines other
    → IsFirstApart ones others place → new ≡ old ++ apart_text ones others place → (more : List ℕ) × IsDifference one other more × (new ≡ old ++ more)
told_apart one other ones others place old new apart is_ones is_others first is =
    let found : IsFirstApart (lines one) (lines other) place = subst (λ xs. IsFirstApart xs (lines other) place) is_ones (subst (λ ys. IsFirstApart ones ys place) is_others first) in
    let text : new ≡ old ++ apart_text (lines one) (lines other) place = is ∙ ap₂ (λ xs ys. old ++ apart_text xs ys place) is_ones is_others in
    (apart_text (lines one) (lines other) place, inr (apart, (place, found, refl)), text)
