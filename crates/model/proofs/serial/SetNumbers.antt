-- A number among rising ones: whether it is there, and where it is put.
use Rattle.std.proofs.Common.{ℕ, zero, suc, ◌+◌, ◌<◌, ◌≤◌, nat_lt, Bool, true, false, cond, ◌==◌, ◌≡◌, ◌≢◌, List, [], ◌∷◌, length, get_or, inl, inr, refl, sym, ap, ◌∙◌, subst, arith, lt-ltb, ltb-true}
use Rattle.std.specs.Prelude.{insert}
use Rattle.std.specs.List.{AllByRecursion}
use Rattle.std.proofs.lemmas.Bool.{eq-eqb, eqb-true, ne_eqb, both_ways, false≢true}
use Rattle.std.proofs.lemmas.List.{get_or_default}
use Rattle.model.specs.Lists.{IsIn}
use Rattle.model.specs.declarations.Hierarchy.{IsRising}
use Rattle.model.specs.state.KindSets.{AreSetNumbers, set_limit, with_number}
use Rattle.model.proofs.lists.Lists.{has-IsIn}
use Rattle.model.proofs.serial.KindLists.{with_number-rises}

-- ---- a number among rising ones

-- a number above the first is added behind it
later : (n m : ℕ) (ms : List ℕ) → m < n → with_number n (m ∷ ms) ≡ m ∷ with_number n ms
later n m ms l = go (n == m) (nat_lt n m) (ne_eqb n m (λ e. omega arith)) not-less
  where
    not-less : nat_lt n m ≡ false
    not-less = test (nat_lt n m) refl
      where
        test : (b : Bool) → nat_lt n m ≡ b → b ≡ false
        test true e = absurd (let k : n < m = ltb-true n m e in omega arith)
        test false e = refl

    go : (same less : Bool) → same ≡ false → less ≡ false → cond same (m ∷ ms) (cond less (n ∷ m ∷ ms) (m ∷ with_number n ms)) ≡ m ∷ with_number n ms
    go true less e f = absurd (false≢true (sym e))
    go false true e f = absurd (false≢true (sym f))
    go false false e f = refl

-- one that is there isn't added
pub number-there : (n p : ℕ) (ms : List ℕ) → ((k : ℕ) → k < p → get_or ms k 0 < n) → p < length ms → get_or ms p 0 ≡ n → with_number n ms ≡ ms
number-there n p [] below l e = absurd (omega arith)
number-there n zero (m ∷ ms) below l e = go (n == m) (eq-eqb n m (sym e))
  where
    go : (b : Bool) → b ≡ true → cond b (m ∷ ms) (cond (nat_lt n m) (n ∷ m ∷ ms) (m ∷ with_number n ms)) ≡ m ∷ ms
    go true f = refl
    go false f = absurd (false≢true f)
number-there n (suc p) (m ∷ ms) below l e =
    later n m ms (below zero (omega arith)) ∙ ap (λ xs. m ∷ xs) (number-there n p ms (λ k j. below (suc k) (omega arith)) (omega arith) e)

-- another one is, behind those that are less
pub number-put : (n p : ℕ) (ms : List ℕ) → ((k : ℕ) → k < p → get_or ms k 0 < n) → p ≤ length ms → (p < length ms → n < get_or ms p 0) → with_number n ms ≡ insert ms p n
number-put n zero [] below l above = refl
number-put n (suc p) [] below l above = absurd (omega arith)
number-put n zero (m ∷ ms) below l above = go (n == m) (nat_lt n m) (ne_eqb n m (λ e. let k : n < m = above (omega arith) in omega arith)) (lt-ltb n m (above (omega arith)))
  where
    go : (same less : Bool) → same ≡ false → less ≡ true → cond same (m ∷ ms) (cond less (n ∷ m ∷ ms) (m ∷ with_number n ms)) ≡ n ∷ m ∷ ms
    go true less e f = absurd (false≢true (sym e))
    go false true e f = refl
    go false false e f = absurd (false≢true f)
number-put n (suc p) (m ∷ ms) below l above =
    later n m ms (below zero (omega arith)) ∙ ap (λ xs. m ∷ xs) (number-put n p ms (λ k j. below (suc k) (omega arith)) (omega arith) (λ j. above (omega arith)))

-- so as they were found, where a read of the list gives its own number past the end
pub number-found : (n p first : ℕ) (ms : List ℕ) → ((k : ℕ) → k < p → get_or ms k 0 < n) → p < length ms → first ≡ get_or ms p first → first ≡ n → ms ≡ with_number n ms
number-found n p first ms below l e same = sym (number-there n p ms below l (get_or_default ms p 0 first l ∙ (sym e ∙ same)))

-- a number that isn't there is below the first that isn't less
pub number-above : (n p first : ℕ) (ms : List ℕ) → p < length ms → n ≤ get_or ms p 0 → first ≡ get_or ms p first → first ≢ n → n < get_or ms p 0
number-above n p first ms l least e differ =
    let same : get_or ms p 0 ≡ first = get_or_default ms p 0 first l ∙ sym e in
    let other : get_or ms p 0 ≢ n = λ q. differ (sym same ∙ q) in
    omega arith

-- an element of a list is in it
element-in : (xs : List ℕ) (i : ℕ) → i < length xs → IsIn (get_or xs i 0) xs
element-in [] i within = absurd (omega arith)
element-in (x ∷ xs) zero within = inl refl
element-in (x ∷ xs) (suc i) within = inr (element-in xs i (omega arith))

-- rising numbers rise from place to place
pub rising-at : (xs : List ℕ) → IsRising xs → (i j : ℕ) → i < j → j < length xs → get_or xs i 0 < get_or xs j 0
rising-at [] rise i j before within = absurd (omega arith)
rising-at (x ∷ xs) rise zero zero before within = absurd (omega arith)
rising-at (x ∷ xs) rise zero (suc j) before within = rise.0 (get_or xs j 0) (has-IsIn (get_or xs j 0) xs (element-in xs j (omega arith)))
rising-at (x ∷ xs) rise (suc i) zero before within = absurd (omega arith)
rising-at (x ∷ xs) rise (suc i) (suc j) before within = rising-at xs rise.1 i j (omega arith) (omega arith)

-- so what is less than a number at one place is less than it before that place
pub rising-below : (xs : List ℕ) (n p : ℕ) → IsRising xs → p < length xs → get_or xs p 0 < n → (k : ℕ) → k < p + 1 → get_or xs k 0 < n
rising-below xs n p rise within below k before = go (k == p) refl
  where
    go : (b : Bool) → (k == p) ≡ b → get_or xs k 0 < n
    go true e = let same : k ≡ p = eqb-true k p e in subst (λ i. get_or xs i 0 < n) (sym same) below
    go false e = let other : k ≢ p = λ same. both_ways (k == p) e (eq-eqb k p same) in let less = rising-at xs rise k p (omega arith) within in omega arith

-- ---- numbers of sets

-- one more of them is one of them
pub set_numbers-more : (n : ℕ) (ms : List ℕ) → n < set_limit → AreSetNumbers ms → AreSetNumbers (with_number n ms)
set_numbers-more n ms l are = record { rise = with_number-rises n ms are.rise; below = below ms are.below }
  where
    below : (xs : List ℕ) → AllByRecursion (λ k. k < set_limit) xs → AllByRecursion (λ k. k < set_limit) (with_number n xs)
    below [] all = (l, tt)
    below (x ∷ xs) all = go (n == x) (nat_lt n x) (below xs all.1)
      where
        go : (same less : Bool) → AllByRecursion (λ k. k < set_limit) (with_number n xs) →
            AllByRecursion (λ k. k < set_limit) (cond same (x ∷ xs) (cond less (n ∷ x ∷ xs) (x ∷ with_number n xs)))
        go true less rest = all
        go false true rest = (l, all)
        go false false rest = (all.0, rest)
