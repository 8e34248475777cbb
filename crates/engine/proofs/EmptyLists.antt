-- Lists by system of which the first are empty, as loops that empty them go on.
use Rattle.std.proofs.Common.{◌≡◌, ℕ, zero, suc, ◌+◌, ◌<◌, ◌≤◌, ◌⊎◌, inl, inr, List, [], ◌∷◌, ◌++◌, length, get_or, set, refl, ap, ◌∙◌, arith}
use Rattle.std.proofs.lemmas.Bool.{cases_eq, cases_lt}
use Rattle.std.proofs.lemmas.List.{get_or-set_same, get_or-set_other, get_or_past}

-- those before a place are empty
abbrev pub AreEmptyTo : {A : Type 0} → ℕ → List (List A) → Type 0
AreEmptyTo place lists = (n : ℕ) → n < place → get_or lists n [] ≡ []

-- one more is emptied
pub emptied_more : {A : Type 0} (lists : List (List A)) (place : ℕ) (x : List A) → x ≡ [] → place < length lists → AreEmptyTo place lists → AreEmptyTo (place + 1) (set lists place x)
emptied_more lists place x e within h n below = go (cases_eq n place)
  where
    go : (n ≡ place) ⊎ (n ≡ place → ⊥) → get_or (set lists place x) n [] ≡ []
    go (inl same) = ap (λ k. get_or (set lists place x) k []) same ∙ get_or-set_same lists place x [] within ∙ e
    go (inr other) = get_or-set_other lists place n x [] other ∙ h n (omega arith)

-- all are empty
pub emptied_all : {A : Type 0} (lists : List (List A)) (place : ℕ) → length lists ≤ place → AreEmptyTo place lists → (n : ℕ) → get_or lists n [] ≡ []
emptied_all lists place all h n = go (cases_lt n (length lists))
  where
    go : (n < length lists) ⊎ (length lists ≤ n) → get_or lists n [] ≡ []
    go (inl within) = h n (omega arith)
    go (inr past) = get_or_past lists n [] past

-- an empty one more at the end
pub nothing_more : {A : Type 0} (lists : List (List A)) (x : List A) → x ≡ [] → ((n : ℕ) → get_or lists n [] ≡ []) → (n : ℕ) → get_or (lists ++ x ∷ []) n [] ≡ []
nothing_more [] x e h n = first n
  where
    first : (k : ℕ) → get_or (x ∷ []) k [] ≡ []
    first zero = e
    first (suc k) = refl
nothing_more (y ∷ lists) x e h zero = h zero
nothing_more (y ∷ lists) x e h (suc n) = nothing_more lists x e (λ k. h (suc k)) n
