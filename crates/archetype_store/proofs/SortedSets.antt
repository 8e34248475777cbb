-- Numbers of sets that are added one by one make the same list in whatever order they come.
use Rattle.archetype_store.proofs.Common.{ℕ, zero, suc, ◌+◌, ◌<◌, ◌≡◌, ◌⊎◌, Bool, true, false, List, [], ◌∷◌, ◌++◌, length, get_or, take, map, refl, sym, ap, ◌∙◌, subst, inl, inr, arith, Contains, AllByRecursion, IsPermutation, take_more, IsIn, with_number, numbers_with, first_numbers, number_seen, kinds_seen, ArchetypeView}
use Rattle.std.proofs.lemmas.List.Sorted.{IsPermutation-sym, Contains-permutation}
use Rattle.model.specs.declarations.Hierarchy.{IsRising}
use Rattle.model.proofs.serial.There.{number_here, number_stays}
use Rattle.model.proofs.serial.KindLists.{number-cases, rising-same, with_number-rises}

-- rising numbers with more of them, one by one
abbrev pub numbers_added : List ℕ → List ℕ → List ℕ
numbers_added [] numbers = numbers
numbers_added (n ∷ ns) numbers = numbers_added ns (with_number n numbers)

added-append : (ns more ms : List ℕ) → numbers_added (ns ++ more) ms ≡ numbers_added more (numbers_added ns ms)
added-append [] more ms = refl
added-append (n ∷ ns) more ms = added-append ns more (with_number n ms)

-- a step of a loop that adds them
pub added_more : (ns : List ℕ) (i d : ℕ) (ms : List ℕ) → i < length ns → numbers_added (take (i + 1) ns) ms ≡ with_number (get_or ns i d) (numbers_added (take i ns) ms)
added_more ns i d ms l = ap (λ (xs : List ℕ). numbers_added xs ms) (take_more ns i d l) ∙ added-append (take i ns) (get_or ns i d ∷ []) ms

-- they rise
added-rise : (ns ms : List ℕ) → IsRising ms → IsRising (numbers_added ns ms)
added-rise [] ms rise = rise
added-rise (n ∷ ns) ms rise = added-rise ns (with_number n ms) (with_number-rises n ms rise)

-- what was among them, and what is added, is among them, and nothing else
added-stay : (k : ℕ) (ns ms : List ℕ) → IsIn k ms → IsIn k (numbers_added ns ms)
added-stay k [] ms i = i
added-stay k (n ∷ ns) ms i = added-stay k ns (with_number n ms) (number_stays n k ms i)

added-each : (k : ℕ) (ns ms : List ℕ) → IsIn k ns → IsIn k (numbers_added ns ms)
added-each k [] ms i = absurd i
added-each k (n ∷ ns) ms (inl e) = added-stay k ns (with_number n ms) (rw e (number_here n ms))
added-each k (n ∷ ns) ms (inr i) = added-each k ns (with_number n ms) i

added-cases : (k : ℕ) (ns ms : List ℕ) → IsIn k (numbers_added ns ms) → IsIn k ns ⊎ IsIn k ms
added-cases k [] ms i = inr i
added-cases k (n ∷ ns) ms i = go (added-cases k ns (with_number n ms) i)
  where
    old : (k ≡ n) ⊎ IsIn k ms → IsIn k (n ∷ ns) ⊎ IsIn k ms
    old (inl e) = inl (inl e)
    old (inr j) = inr j

    go : IsIn k ns ⊎ IsIn k (with_number n ms) → IsIn k (n ∷ ns) ⊎ IsIn k ms
    go (inl j) = inl (inr j)
    go (inr j) = old (number-cases n k ms j)

-- ---- another order

contains-in : (k : ℕ) (ns : List ℕ) → IsIn k ns → Contains ns k
contains-in k [] i = absurd i
contains-in k (n ∷ ns) (inl e) = (zero, (let l : zero < suc (length ns) = omega arith in l), sym e)
contains-in k (n ∷ ns) (inr i) = let found = contains-in k ns i in (suc found.0, (let l : suc found.0 < suc (length ns) = omega (arith, found.1) in l), found.2)

in-contains : (k : ℕ) (ns : List ℕ) (i : ℕ) → i < length ns → get_or ns i k ≡ k → IsIn k ns
in-contains k [] i l e = absurd (omega arith)
in-contains k (n ∷ ns) zero l e = inl (sym e)
in-contains k (n ∷ ns) (suc i) l e = inr (in-contains k ns i (omega arith) e)

moved : (k : ℕ) (xs ys : List ℕ) → IsPermutation xs ys → IsIn k xs → IsIn k ys
moved k xs ys same i = let found = Contains-permutation xs ys k same (contains-in k xs i) in in-contains k ys found.0 found.1 found.2

only_new : (k : ℕ) (ns : List ℕ) → IsIn k (numbers_added ns []) → IsIn k ns
only_new k ns i = go (added-cases k ns [] i)
  where
    go : IsIn k ns ⊎ IsIn k [] → IsIn k ns
    go (inl j) = j
    go (inr j) = absurd j

-- they make the same list
pub added-permutation : (xs ys : List ℕ) → IsPermutation xs ys → numbers_added ys [] ≡ numbers_added xs []
added-permutation xs ys same = rising-same (numbers_added ys []) (numbers_added xs []) (added-rise ys [] tt) (added-rise xs [] tt)
    (λ k i. added-each k xs [] (moved k ys xs (IsPermutation-sym xs ys same) (only_new k ys i)))
    (λ k i. added-each k ys [] (moved k xs ys same (only_new k xs i)))

-- what holds of each holds of each in another order
at-in : (ns : List ℕ) (i d : ℕ) → i < length ns → IsIn (get_or ns i d) ns
at-in [] i d l = absurd (omega arith)
at-in (n ∷ ns) zero d l = inl refl
at-in (n ∷ ns) (suc i) d l = inr (at-in ns i d (omega arith))

each-of : (P : ℕ → Type 0) (ns : List ℕ) (k : ℕ) → AllByRecursion P ns → IsIn k ns → P k
each-of P [] k all i = absurd i
each-of P (n ∷ ns) k all (inl e) = subst P (sym e) all.0
each-of P (n ∷ ns) k all (inr i) = each-of P ns k all.1 i

pub each-moved : (P : ℕ → Type 0) (xs ys : List ℕ) (i d : ℕ) → IsPermutation xs ys → AllByRecursion P xs → i < length ys → P (get_or ys i d)
each-moved P xs ys i d same all l = each-of P xs (get_or ys i d) all (moved (get_or ys i d) ys xs (IsPermutation-sym xs ys same) (at-in ys i d l))

-- ---- views of archetypes

added-views : (views : List ArchetypeView) (ms : List ℕ) → numbers_added (map number_seen views) ms ≡ numbers_with (map kinds_seen views) ms
added-views [] ms = refl
added-views (view ∷ views) ms = added-views views (with_number (number_seen view) ms)

added-first : (without : Bool) → numbers_added (first_numbers without) [] ≡ first_numbers without
added-first true = refl
added-first false = refl

-- the numbers of views and of no kinds, however they are ordered
pub sorted_sets : (views : List ArchetypeView) (without : Bool) (ns : List ℕ) → IsPermutation (first_numbers without ++ map number_seen views) ns →
    numbers_added ns [] ≡ numbers_with (map kinds_seen views) (first_numbers without)
sorted_sets views without ns same =
    added-permutation (first_numbers without ++ map number_seen views) ns same ∙ added-append (first_numbers without) (map number_seen views) []
    ∙ ap (numbers_added (map number_seen views)) (added-first without) ∙ added-views views (first_numbers without)
