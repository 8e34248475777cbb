-- The list of the kind sets of the living entities: it rises, holds theirs alone, and is the only list that does.
use Rattle.std.proofs.Common.{ℕ, zero, suc, ◌<◌, nat_lt, Bool, true, false, cond, ◌==◌, ◌≡◌, ◌⊎◌, List, [], ◌∷◌, get_or, refl, sym, ap₂, subst, inl, inr, arith, lt-ltb, ltb-true}
use Rattle.std.proofs.lemmas.Bool.{eq-eqb, both_ways, cases_order}
use Rattle.model.specs.Lists.{IsIn}
use Rattle.model.specs.declarations.Hierarchy.{IsRising}
use Rattle.model.specs.state.State.{Slot, fresh_slot, is_living}
use Rattle.model.specs.state.Rows.{row_at}
use Rattle.model.specs.state.KindSets.{kinds_number, with_number, kind_sets_of}
use Rattle.model.proofs.lists.Lists.{has-IsIn, IsIn_from_has}
use Rattle.model.proofs.serial.There.{listed}

-- ---- lists that rise

-- the first two of two rising lists with the same numbers are one
first_same : (x y : ℕ) (xs ys : List ℕ) → IsRising (x ∷ xs) → IsRising (y ∷ ys) → IsIn x (y ∷ ys) → IsIn y (x ∷ xs) → x ≡ y
first_same x y xs ys rise risen (inl e) j = e
first_same x y xs ys rise risen (inr i) (inl e) = sym e
first_same x y xs ys rise risen (inr i) (inr j) =
    let below : y < x = risen.0 x (has-IsIn x ys i) in
    let above : x < y = rise.0 y (has-IsIn y xs j) in
    absurd (omega arith)

-- what is behind the first of one is behind the first of the other
rest_in : (x y n : ℕ) (xs ys : List ℕ) → x ≡ y → IsRising (x ∷ xs) → IsIn n xs → IsIn n (y ∷ ys) → IsIn n ys
rest_in x y n xs ys same rise i (inr j) = j
rest_in x y n xs ys same rise i (inl e) = let far : x < n = rise.0 n (has-IsIn n xs i) in absurd (omega arith)

-- rising lists with the same numbers are one
pub rising-same : (xs ys : List ℕ) → IsRising xs → IsRising ys → ((n : ℕ) → IsIn n xs → IsIn n ys) → ((n : ℕ) → IsIn n ys → IsIn n xs) → xs ≡ ys
rising-same [] [] rise risen f g = refl
rising-same [] (y ∷ ys) rise risen f g = absurd (g y (inl refl))
rising-same (x ∷ xs) [] rise risen f g = absurd (f x (inl refl))
rising-same (x ∷ xs) (y ∷ ys) rise risen f g =
    let first : x ≡ y = first_same x y xs ys rise risen (f x (inl refl)) (g y (inl refl)) in
    ap₂ ◌∷◌ first (rising-same xs ys rise.1 risen.1
    (λ n i. rest_in x y n xs ys first rise i (f n (inr i)))
    (λ n i. rest_in y x n ys xs (sym first) risen i (g n (inr i))))

-- ---- one more number

-- what is among numbers with one more is that one or was among them
pub number-cases : (n k : ℕ) (ms : List ℕ) → IsIn k (with_number n ms) → (k ≡ n) ⊎ IsIn k ms
number-cases n k [] (inl e) = inl e
number-cases n k [] (inr i) = absurd i
number-cases n k (m ∷ ms) i = go (n == m) (nat_lt n m) i (number-cases n k ms)
  where
    later : (k ≡ n) ⊎ IsIn k ms → (k ≡ n) ⊎ IsIn k (m ∷ ms)
    later (inl e) = inl e
    later (inr j) = inr (inr j)

    go : (same less : Bool) → IsIn k (cond same (m ∷ ms) (cond less (n ∷ m ∷ ms) (m ∷ with_number n ms))) → (IsIn k (with_number n ms) → (k ≡ n) ⊎ IsIn k ms) →
        (k ≡ n) ⊎ IsIn k (m ∷ ms)
    go true less i f = inr i
    go false true (inl e) f = inl e
    go false true (inr i) f = inr i
    go false false (inl e) f = inr (inl e)
    go false false (inr i) f = later (f i)

-- what follows a number that is less than the first is above it
above_less : (n m k : ℕ) (ms : List ℕ) → n < m → IsRising (m ∷ ms) → IsIn k (m ∷ ms) → n < k
above_less n m k ms below rise (inl e) = omega arith
above_less n m k ms below rise (inr i) = let far : m < k = rise.0 k (has-IsIn k ms i) in omega arith

-- what follows the first stays above it with one more number above it
above_more : (n m k : ℕ) (ms : List ℕ) → m < n → IsRising (m ∷ ms) → (k ≡ n) ⊎ IsIn k ms → m < k
above_more n m k ms below rise (inl e) = omega arith
above_more n m k ms below rise (inr i) = rise.0 k (has-IsIn k ms i)

-- rising numbers with one more rise
pub with_number-rises : (n : ℕ) (ms : List ℕ) → IsRising ms → IsRising (with_number n ms)
with_number-rises n [] rise = ((λ k e. absurd (IsIn_from_has k [] e)), tt)
with_number-rises n (m ∷ ms) rise = go (n == m) (nat_lt n m) refl refl (with_number-rises n ms rise.1)
  where
    above : (n == m) ≡ false → nat_lt n m ≡ false → (n ≡ m) ⊎ ((n < m) ⊎ (m < n)) → m < n
    above differ least (inl e) = absurd (both_ways (n == m) differ (eq-eqb n m e))
    above differ least (inr (inl l)) = absurd (both_ways (nat_lt n m) least (lt-ltb n m l))
    above differ least (inr (inr l)) = l

    go : (same less : Bool) → (n == m) ≡ same → nat_lt n m ≡ less → IsRising (with_number n ms) →
        IsRising (cond same (m ∷ ms) (cond less (n ∷ m ∷ ms) (m ∷ with_number n ms)))
    go true less e l rest = rise
    go false true e l rest = ((λ k f. above_less n m k ms (ltb-true n m l) rise (IsIn_from_has k (m ∷ ms) f)), rise)
    go false false e l rest =
        ((λ k f. above_more n m k ms (above e l (cases_order n m)) rise (number-cases n k ms (IsIn_from_has k (with_number n ms) f))), rest)

-- ---- the living entities

-- the list of their kind sets rises
pub kind_sets-rise : (slots : List Slot) → IsRising (kind_sets_of slots)
unfolding kind_sets_of
kind_sets-rise [] = tt
kind_sets-rise (slot ∷ slots) = go (is_living slot.status) (kind_sets-rise slots)
  where
    go : (b : Bool) → IsRising (kind_sets_of slots) → IsRising (cond b (with_number (kinds_number slot.row) (kind_sets_of slots)) (kind_sets_of slots))
    go true rise = with_number-rises (kinds_number slot.row) (kind_sets_of slots) rise
    go false rise = rise

-- a living entity with the kinds of a number
pub record IsOfLiving (slots : List Slot) (number : ℕ) : Type 0 where
  pub index : ℕ
  pub lives : is_living (get_or slots index fresh_slot).status ≡ true
  pub kinds : number ≡ kinds_number (row_at slots index)

-- each of the list is of one
pub kind_sets-living : (slots : List Slot) (number : ℕ) → IsIn number (kind_sets_of slots) → IsOfLiving slots number
unfolding kind_sets_of
kind_sets-living [] number i = absurd i
kind_sets-living (slot ∷ slots) number i = go (is_living slot.status) refl i (kind_sets-living slots number)
  where
    later : IsOfLiving slots number → IsOfLiving (slot ∷ slots) number
    later r = record { index = suc r.index; lives = r.lives; kinds = r.kinds }

    first : is_living slot.status ≡ true → (IsIn number (kind_sets_of slots) → IsOfLiving slots number) → (number ≡ kinds_number slot.row) ⊎ IsIn number (kind_sets_of slots) →
        IsOfLiving (slot ∷ slots) number
    first e f (inl same) = record { index = zero; lives = e; kinds = same }
    first e f (inr j) = later (f j)

    go : (b : Bool) → is_living slot.status ≡ b → IsIn number (cond b (with_number (kinds_number slot.row) (kind_sets_of slots)) (kind_sets_of slots)) →
        (IsIn number (kind_sets_of slots) → IsOfLiving slots number) → IsOfLiving (slot ∷ slots) number
    go true e i f = first e f (number-cases (kinds_number slot.row) number (kind_sets_of slots) i)
    go false e i f = later (f i)

-- rising numbers, each of a living entity's kinds, among which each living entity's are, are their kind sets
pub kind_sets-only : (slots : List Slot) (numbers : List ℕ) → IsRising numbers → ((n : ℕ) → IsIn n numbers → IsOfLiving slots n) →
    ((index : ℕ) → is_living (get_or slots index fresh_slot).status ≡ true → IsIn (kinds_number (row_at slots index)) numbers) → numbers ≡ kind_sets_of slots
kind_sets-only slots numbers rise theirs every = rising-same numbers (kind_sets_of slots) rise (kind_sets-rise slots)
    (λ n i. let r = theirs n i in subst (λ k. IsIn k (kind_sets_of slots)) (sym r.kinds) (listed slots r.index r.lives))
    (λ n i. let r = kind_sets-living slots n i in subst (λ k. IsIn k numbers) (sym r.kinds) (every r.index r.lives))
