-- Searches for a number with a property that is decided: below a bound, and in a list.
use Rattle.std.proofs.Common.{ℕ, zero, suc, ◌<◌, Bool, true, false, ◌≡◌, ◌⊎◌, inl, inr, List, [], ◌∷◌, ◌++◌, refl, sym, ap, subst, eq-eqb, arith, true≢false}
use Rattle.std.proofs.lemmas.Bool.{or_left, or_right, cases_order}
use Rattle.model.specs.Lists.{has}
use Rattle.model.proofs.order.Histories.{same_or}

-- ---- decisions

-- a test is true or not
pub decide_true : (b : Bool) → (b ≡ true) ⊎ (b ≡ true → ⊥)
decide_true true = inl refl
decide_true false = inr (λ e. true≢false (sym e))

-- a test is false or not
pub decide_false : (b : Bool) → (b ≡ false) ⊎ (b ≡ false → ⊥)
decide_false true = inr true≢false
decide_false false = inl refl

-- two properties hold or not
pub decide_both : {P Q : Type 0} → P ⊎ (P → ⊥) → Q ⊎ (Q → ⊥) → (P × Q) ⊎ (P × Q → ⊥)
decide_both (inl p) (inl q) = inl (p, q)
decide_both (inl p) (inr q) = inr (λ both. q both.1)
decide_both (inr p) decided = inr (λ both. p both.0)

-- the opposite of a property holds or not
pub decide_not : {P : Type 0} → P ⊎ (P → ⊥) → (P → ⊥) ⊎ ((P → ⊥) → ⊥)
decide_not (inl p) = inr (λ none. none p)
decide_not (inr none) = inl none

-- ---- below a bound

-- the least number below a bound with a property
pub record LeastBelow (P : ℕ → Type 0) (bound : ℕ) : Type 0 where
  pub number : ℕ
  pub below : number < bound
  pub holds : P number
  pub least : (n : ℕ) → n < number → P n → ⊥

-- no number below a bound has a property
abbrev pub NoneBelow : (ℕ → Type 0) → ℕ → Type 0
NoneBelow P bound = (n : ℕ) → n < bound → P n → ⊥

-- none below one more
pub none_below_more : (P : ℕ → Type 0) (bound : ℕ) → NoneBelow P bound → (P bound → ⊥) → NoneBelow P (suc bound)
none_below_more P bound none not_here n l p = elim (cases_order n bound) [
  | inl q ↦ not_here (subst P q p)
  | inr other ↦ elim other [ inl below ↦ none n below p | inr above ↦ omega arith ]
]

-- the least number with a property is found, or none has it
pub least_below : (P : ℕ → Type 0) → ((n : ℕ) → P n ⊎ (P n → ⊥)) → (bound : ℕ) → LeastBelow P bound ⊎ NoneBelow P bound
least_below P decide zero = inr (λ n l p. omega arith)
least_below P decide (suc bound) = elim (least_below P decide bound) [
  | inl found ↦ inl (record { number = found.number; below = omega (arith, found.below); holds = found.holds; least = found.least })
  | inr none ↦ elim (decide bound) [
    | inl p ↦ inl (record { number = bound; below = omega arith; holds = p; least = none })
    | inr not_here ↦ inr (none_below_more P bound none not_here)
  ]
]

-- ---- in a list

-- the first element of a list with a property
pub record FirstIn (P : ℕ → Type 0) (xs : List ℕ) : Type 0 where
  pub front : List ℕ
  pub number : ℕ
  pub rest : List ℕ
  pub splits : xs ≡ front ++ number ∷ rest
  pub holds : P number
  pub first : (n : ℕ) → has n front ≡ true → P n → ⊥

-- no element of a list has a property
abbrev pub NoneIn : (ℕ → Type 0) → List ℕ → Type 0
NoneIn P xs = (n : ℕ) → has n xs ≡ true → P n → ⊥

-- none in a list with one more
pub none_in_more : (P : ℕ → Type 0) (x : ℕ) (xs : List ℕ) → (P x → ⊥) → NoneIn P xs → NoneIn P (x ∷ xs)
none_in_more P x xs not_here none n e p = elim (same_or x n (has n xs) e) [ inl q ↦ not_here (subst P (sym q) p) | inr r ↦ none n r p ]

-- the first element with a property is found, or none has it
pub first_in : (P : ℕ → Type 0) → ((n : ℕ) → P n ⊎ (P n → ⊥)) → (xs : List ℕ) → FirstIn P xs ⊎ NoneIn P xs
first_in P decide [] = inr (λ n e p. true≢false (sym e))
first_in P decide (x ∷ xs) = elim (decide x) [
  | inl p ↦ inl (record { front = []; number = x; rest = xs; splits = refl; holds = p; first = λ n e q. true≢false (sym e) })
  | inr not_here ↦ elim (first_in P decide xs) [
    | inl found ↦ inl (record {
      front = x ∷ found.front;
      number = found.number;
      rest = found.rest;
      splits = ap (λ ys. x ∷ ys) found.splits;
      holds = found.holds;
      first = none_in_more P x found.front not_here found.first;
    })
    | inr none ↦ inr (none_in_more P x xs not_here none)
  ]
]

-- what stands between two lists is in the whole
pub has_middle : (front rest : List ℕ) (n : ℕ) → has n (front ++ n ∷ rest) ≡ true
has_middle [] rest n = or_left _ _ (eq-eqb n n refl)
has_middle (x ∷ front) rest n = or_right _ _ (has_middle front rest n)

-- what is found in a list is in it
pub found_has : (P : ℕ → Type 0) (xs : List ℕ) → (found : FirstIn P xs) → has found.number xs ≡ true
found_has P xs found = subst (λ ys. has found.number ys ≡ true) (sym found.splits) (has_middle found.front found.rest found.number)
