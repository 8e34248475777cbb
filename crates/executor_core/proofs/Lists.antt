-- What holds of all numbers of a list, found one after the other.
use Rattle.std.proofs.Common.{ℕ, zero, suc, ◌+◌, ◌<◌, ◌≤◌, ◌≡◌, true, false, eqb, inl, inr, List, [], ◌∷◌, length, take, get_or, sym, ap, ◌∙◌, subst, arith}
use Rattle.std.proofs.lemmas.Bool.{false≢true, or_cases, or_left, or_right, eqb-true}
use Rattle.std.proofs.lemmas.List.{take_more, take_all}
use Rattle.model.specs.Lists.{has}
use Rattle.model.specs.declarations.Hierarchy.{IsRising}
use Rattle.model.proofs.lists.Places.{has-append}

-- one more
pub all_more : (Q : ℕ → Type 0) (xs : List ℕ) (i : ℕ) → i < length xs → ((n : ℕ) → has n (take i xs) ≡ true → Q n) → Q (get_or xs i 0) → (n : ℕ) → has n (take (i + 1) xs) ≡ true → Q n
all_more Q xs i low before here n e =
    elim (or_cases (has n (take i xs)) (has n (get_or xs i 0 ∷ [])) (sym (has-append n (take i xs) (get_or xs i 0 ∷ [])) ∙ (ap (λ (ys : List ℕ). has n ys) (sym (take_more xs i 0 low)) ∙ e))) [
      | inl old ↦ before n old
      | inr new ↦ elim (or_cases (eqb (get_or xs i 0) n) false new) [
        | inl same ↦ subst Q (eqb-true (get_or xs i 0) n same) here
        | inr none ↦ absurd (false≢true none)
      ]
    ]

-- all
pub all_there : (Q : ℕ → Type 0) (xs : List ℕ) (i : ℕ) → length xs ≤ i → ((n : ℕ) → has n (take i xs) ≡ true → Q n) → (n : ℕ) → has n xs ≡ true → Q n
all_there Q xs i past before n e = before n (ap (λ (ys : List ℕ). has n ys) (take_all i xs past) ∙ e)

-- a number of a rising list that is below the one at a place stands before it
pub below_is_before : (xs : List ℕ) (i n : ℕ) → IsRising xs → i < length xs → has n xs ≡ true → n < get_or xs i 0 → has n (take i xs) ≡ true
below_is_before [] i n rising low e below = absurd (false≢true e)
below_is_before (x ∷ xs) zero n rising low e below = elim (or_cases (eqb x n) (has n xs) e) [
  | inl same ↦ let is : x ≡ n = eqb-true x n same in absurd (omega arith)
  | inr later ↦ let above : x < n = rising.0 n later in absurd (omega arith)
]
below_is_before (x ∷ xs) (suc i) n rising low e below = elim (or_cases (eqb x n) (has n xs) e) [
  | inl same ↦ or_left (eqb x n) (has n (take i xs)) same
  | inr later ↦ or_right (eqb x n) (has n (take i xs)) (below_is_before xs i n rising.1 (omega arith) later below)
]
