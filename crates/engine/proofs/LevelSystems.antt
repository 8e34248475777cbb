-- The systems of each level, as the schedule order is gone over.
use Rattle.std.proofs.Common.{◌≡◌, ℕ, ◌+◌, ◌<◌, Bool, true, false, cond, ◌==◌, ◌⊎◌, inl, inr, List, [], ◌∷◌, ◌++◌, length, get_or, set, take, filter, sym, ap, ◌∙◌, append-nil, arith}
use Rattle.std.proofs.lemmas.Bool.{cases_eq, eq-eqb, ne_eqb}
use Rattle.std.proofs.lemmas.List.{get_or_default, get_or-set_same, get_or-set_other, length-set, take_more}
use Rattle.std.proofs.lemmas.List.Elements.{filter-append}

-- the systems of each level among these
abbrev pub AreLevelsOf : (ℕ → ℕ) → List ℕ → List (List ℕ) → Type 0
AreLevelsOf level order lists = (k : ℕ) → k < length lists → get_or lists k [] ≡ filter (λ n. level n == k) order

-- one more system
pub level_more : (level : ℕ → ℕ) (order : List ℕ) (lists : List (List ℕ)) (i d at : ℕ) (was now : List ℕ) → i < length order → at ≡ level (get_or order i d) → at < length lists →
    was ≡ get_or lists at was → now ≡ was ++ get_or order i d ∷ [] → AreLevelsOf level (take i order) lists → AreLevelsOf level (take (i + 1) order) (set lists at now)
level_more level order lists i d at was now within is known e f h k below = go (cases_eq k at)
  where
    n : ℕ
    n = get_or order i d

    count : length (set lists at now) ≡ length lists
    count = length-set lists at now

    split : (b : Bool) → (level n == k) ≡ b → filter (λ m. level m == k) (take (i + 1) order) ≡ filter (λ m. level m == k) (take i order) ++ cond b (n ∷ []) []
    split b same = ap (filter (λ m. level m == k)) (take_more order i d within) ∙ filter-append (λ m. level m == k) (take i order) (n ∷ [])
        ∙ ap (λ x. filter (λ m. level m == k) (take i order) ++ cond x (n ∷ []) []) same

    go : (k ≡ at) ⊎ (k ≡ at → ⊥) → get_or (set lists at now) k [] ≡ filter (λ m. level m == k) (take (i + 1) order)
    go (inl same) =
        ap (λ j. get_or (set lists at now) j []) same ∙ get_or-set_same lists at now [] known ∙ f
        ∙ ap (λ xs. xs ++ n ∷ []) (e ∙ get_or_default lists at was [] known ∙ ap (λ j. get_or lists j []) (sym same) ∙ h k (omega (arith, count)))
        ∙ sym (split true (eq-eqb (level n) k (sym (same ∙ is))))
    go (inr other) =
        get_or-set_other lists at k now [] other ∙ h k (omega (arith, count))
        ∙ sym (split false (ne_eqb (level n) k (λ same. other (sym (is ∙ same)))) ∙ append-nil (filter (λ m. level m == k) (take i order)))
