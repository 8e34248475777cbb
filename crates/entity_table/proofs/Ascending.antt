-- Numbers in rising order: however they stood before, they stand in one order then.
use Rattle.std.proofs.Common.{◌≡◌, ℕ, suc, ◌+◌, ◌<◌, ◌≤◌, false, cond, ◌==◌, nat_le, ◌⊎◌, inl, inr, List, [], ◌∷◌, length, count_by, Result, Ok, Err, refl, ap, ap₂, sym, ◌∙◌, arith}
use Rattle.std.specs.List.{AllByRecursion}
use Rattle.std.specs.List.Sorted.{IsPermutation}
use Rattle.std.specs.Ordering.{nat_cmp, is_lt}
use Rattle.std.specs.BinaryHeap.{IsUpperBound}
use Rattle.std.specs.Result.{IsOk, OnOk}
use Rattle.std.specs.declared.cmp.Reverse.{Reverse}
use Rattle.std.proofs.lemmas.Bool.{cond_both, cond-true, cases_order, leb-true, leb-false, le-leb, eq-eqb, ne_eqb}
use Rattle.std.proofs.lemmas.Bool.Decides.{nat_tests}
use Rattle.std.proofs.lemmas.List.{length-map}
use Rattle.std.proofs.lemmas.List.Sums.{sum_by-cons}
use Rattle.std.proofs.lemmas.List.Sorted.{sum_by-IsPermutation, IsPermutation-map}
use Rattle.entity_table.specs.Rising.{insert_rising, rising_of, values_of, reverse_cmp}

-- ---- words

-- no number is above one that comes later
abbrev pub IsAscending : List ℕ → Type 0
IsAscending [] = Unit {0}
IsAscending (n ∷ ns) = AllByRecursion (λ m. n ≤ m) ns × IsAscending ns

-- how often a number stands in a list
abbrev pub times : ℕ → List ℕ → ℕ
times k ns = count_by (λ n. n == k) ns

times-cons : (k n : ℕ) (ns : List ℕ) → times k (n ∷ ns) ≡ cond (n == k) 1 0 + times k ns
times-cons k n ns = sum_by-cons (λ m. cond (m == k) 1 0) n ns

-- ---- a number put in its place

all-insert : (P : ℕ → Type 0) (n : ℕ) (ms : List ℕ) → P n → AllByRecursion P ms → AllByRecursion P (insert_rising n ms)
all-insert P n [] p q = (p, tt)
all-insert P n (m ∷ ms) p q = cond_both (nat_le n m) (n ∷ m ∷ ms) (m ∷ insert_rising n ms) (AllByRecursion P) (λ e. (p, q)) (λ e. (q.0, all-insert P n ms p q.1))

all-weaker : (P Q : ℕ → Type 0) → ((n : ℕ) → P n → Q n) → (ns : List ℕ) → AllByRecursion P ns → AllByRecursion Q ns
all-weaker P Q h [] p = tt
all-weaker P Q h (n ∷ ns) p = (h n p.0, all-weaker P Q h ns p.1)

ascending-insert : (n : ℕ) (ms : List ℕ) → IsAscending ms → IsAscending (insert_rising n ms)
ascending-insert n [] h = (tt, tt)
ascending-insert n (m ∷ ms) h = cond_both (nat_le n m) (n ∷ m ∷ ms) (m ∷ insert_rising n ms) IsAscending
    (λ e. let le : n ≤ m = leb-true n m e in ((le, all-weaker (λ k. m ≤ k) (λ k. n ≤ k) (λ k l. omega arith) ms h.0), h))
    (λ e. let lt : m < n = leb-false n m e in (all-insert (λ k. m ≤ k) n ms (omega arith) h.0, ascending-insert n ms h.1))

times-insert : (k n : ℕ) (ms : List ℕ) → times k (insert_rising n ms) ≡ times k (n ∷ ms)
times-insert k n [] = refl
times-insert k n (m ∷ ms) = cond_both (nat_le n m) (n ∷ m ∷ ms) (m ∷ insert_rising n ms) (λ l. times k l ≡ times k (n ∷ m ∷ ms)) (λ e. refl)
    (λ e. omega (arith, times-cons k m (insert_rising n ms), times-insert k n ms, times-cons k n ms, times-cons k n (m ∷ ms), times-cons k m ms))

length-insert : (n : ℕ) (ms : List ℕ) → length (insert_rising n ms) ≡ suc (length ms)
length-insert n [] = refl
length-insert n (m ∷ ms) = cond_both (nat_le n m) (n ∷ m ∷ ms) (m ∷ insert_rising n ms) (λ l. length l ≡ suc (suc (length ms))) (λ e. refl) (λ e. ap suc (length-insert n ms))

-- a number that is above none stands first
pub insert_least : (n : ℕ) (ms : List ℕ) → AllByRecursion (λ m. n ≤ m) ms → insert_rising n ms ≡ n ∷ ms
insert_least n [] h = refl
insert_least n (m ∷ ms) h = cond-true (nat_le n m) (n ∷ m ∷ ms) (m ∷ insert_rising n ms) (le-leb n m h.0)

-- ---- the rising order

pub all-rising_of : (P : ℕ → Type 0) (ns : List ℕ) → AllByRecursion P ns → AllByRecursion P (rising_of ns)
all-rising_of P [] p = tt
all-rising_of P (n ∷ ns) p = all-insert P n (rising_of ns) p.0 (all-rising_of P ns p.1)

ascending-rising_of : (ns : List ℕ) → IsAscending (rising_of ns)
ascending-rising_of [] = tt
ascending-rising_of (n ∷ ns) = ascending-insert n (rising_of ns) (ascending-rising_of ns)

times-rising_of : (k : ℕ) (ns : List ℕ) → times k (rising_of ns) ≡ times k ns
times-rising_of k [] = refl
times-rising_of k (n ∷ ns) = omega (arith, times-insert k n (rising_of ns), times-cons k n (rising_of ns), times-cons k n ns, times-rising_of k ns)

pub length-rising_of : (ns : List ℕ) → length (rising_of ns) ≡ length ns
length-rising_of [] = refl
length-rising_of (n ∷ ns) = length-insert n (rising_of ns) ∙ ap suc (length-rising_of ns)

-- ---- two rising lists of the same numbers

times_none : (k n : ℕ) (ms : List ℕ) → k < n → AllByRecursion (λ m. n ≤ m) ms → times k ms ≡ 0
times_none k n [] l h = refl
times_none k n (m ∷ ms) l h =
    let first : (m == k) ≡ false = ne_eqb m k (λ e. (let le : n ≤ m = h.0 in omega arith)) in
    times-cons k m ms ∙ ap₂ (λ b t. cond b 1 0 + t) first (times_none k n ms l h.1)

times_first : (n : ℕ) (ms : List ℕ) → times n (n ∷ ms) ≡ 1 + times n ms
times_first n ms = times-cons n n ms ∙ ap (λ b. cond b 1 0 + times n ms) (eq-eqb n n refl)

-- the least of a list that holds a number
first_same : (x y : ℕ) (xs ys : List ℕ) → IsAscending (x ∷ xs) → IsAscending (y ∷ ys) → ((k : ℕ) → times k (x ∷ xs) ≡ times k (y ∷ ys)) → x ≡ y
first_same x y xs ys a b h = go (cases_order x y)
  where
    go : (x ≡ y) ⊎ ((x < y) ⊎ (y < x)) → x ≡ y
    go (inl e) = e
    go (inr (inl l)) = absurd (omega (arith, times_first x xs, h x, times_none x y (y ∷ ys) l (omega arith, b.0)))
    go (inr (inr l)) = absurd (omega (arith, times_first y ys, h y, times_none y x (x ∷ xs) l (omega arith, a.0)))

same_ascending : (xs ys : List ℕ) → IsAscending xs → IsAscending ys → ((k : ℕ) → times k xs ≡ times k ys) → xs ≡ ys
same_ascending [] [] a b h = refl
same_ascending [] (y ∷ ys) a b h = absurd (let e : 0 ≡ times y (y ∷ ys) = h y in omega (arith, e, times_first y ys))
same_ascending (x ∷ xs) [] a b h = absurd (let e : times x (x ∷ xs) ≡ 0 = h x in omega (arith, e, times_first x xs))
same_ascending (x ∷ xs) (y ∷ ys) a b h =
    let e : x ≡ y = first_same x y xs ys a b h in
    ap₂ (λ z zs. z ∷ zs) e (same_ascending xs ys a.1 b.1 (λ k. rest k e))
  where
    rest : (k : ℕ) → x ≡ y → times k xs ≡ times k ys
    rest k e =
        let t : cond (x == k) 1 0 ≡ cond (y == k) 1 0 = ap (λ z. let n : ℕ = cond (z == k) 1 0 in n) e in
        omega (arith, h k, times-cons k x xs, times-cons k y ys, t)

-- numbers in another order have the same rising order
pub rising_of-permutation : (xs ys : List ℕ) → IsPermutation xs ys → rising_of xs ≡ rising_of ys
rising_of-permutation xs ys p = same_ascending (rising_of xs) (rising_of ys) (ascending-rising_of xs) (ascending-rising_of ys)
    (λ k. times-rising_of k xs ∙ sym (sum_by-IsPermutation (λ n. cond (n == k) 1 0) xs ys p) ∙ sym (times-rising_of k ys))

-- ---- what a heap holds

pub length-values_of : (xs : List (Reverse ℕ)) → length (rising_of (values_of xs)) ≡ length xs
length-values_of xs = length-rising_of (values_of xs) ∙ length-map xs (λ (r : Reverse ℕ). r.0)

pub same_values : (xs ys : List (Reverse ℕ)) → IsPermutation xs ys → rising_of (values_of xs) ≡ rising_of (values_of ys)
same_values xs ys p = rising_of-permutation (values_of xs) (values_of ys) (IsPermutation-map (λ (r : Reverse ℕ). r.0) xs ys p)

-- what holds where a call succeeds
pub from_ok : {T E : Type 0} (r : Result T E) (P : Type 0) → IsOk r → OnOk r P → P
from_ok (Ok x) P ok p = p
from_ok (Err e) P ok p = absurd (cc)

-- what a push leaves
pub pushed : (x : Reverse ℕ) (xs ys : List (Reverse ℕ)) → IsPermutation (x ∷ xs) ys → rising_of (values_of ys) ≡ insert_rising x.0 (rising_of (values_of xs))
pushed x xs ys p = sym (same_values (x ∷ xs) ys p)

least_of : (m n : ℕ) → is_lt (nat_cmp m n) ≡ false → n ≤ m
least_of m n e = grind (arith, nat_tests)

all_least : (x : Reverse ℕ) (ys : List (Reverse ℕ)) → IsUpperBound reverse_cmp x ys → AllByRecursion (λ n. x.0 ≤ n) (values_of ys)
all_least x [] h = tt
all_least x (y ∷ ys) h = (least_of y.0 x.0 h.0, all_least x ys h.1)

-- what a pop gives and leaves
pub popped : (xs : List (Reverse ℕ)) (x : Reverse ℕ) (ys : List (Reverse ℕ)) → IsPermutation xs (x ∷ ys) → IsUpperBound reverse_cmp x ys →
    rising_of (values_of xs) ≡ x.0 ∷ rising_of (values_of ys)
popped xs x ys p h = same_values xs (x ∷ ys) p ∙ insert_least x.0 (rising_of (values_of ys)) (all-rising_of (λ n. x.0 ≤ n) (values_of ys) (all_least x ys h))
