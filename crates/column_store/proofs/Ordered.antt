-- The order of rows whose ids rise as they stand.
use Rattle.column_store.proofs.Common.{◌≡◌, ℕ, zero, suc, ◌+◌, ◌<◌, ◌≤◌, true, ◌==◌, ◌||◌, ◌&&◌, nat_lt, refl, sym, ap, subst, ◌∙◌, List, [], ◌∷◌, length, map, get_or, slice_get, Some, inl, inr, arith, eq-eqb, cases_eq, or_left, or_right, nat_tests, AllByRecursion, has, Entity, is_before, AreRising, AreApart, numbers_from, entity_at, IsOrderOf}

-- ---- ids that rise are apart

-- none comes before itself
pub not_before_itself : (a b : ℕ) → (nat_lt a a || ((a == a) && nat_lt b b)) ≡ true → ⊥
not_before_itself a b h = grind (arith, nat_tests)

-- nor is one of those that come after it
not_after : (x : Entity) (xs : List Entity) (q : ℕ) (e : Entity) → AllByRecursion (λ y. is_before x y ≡ true) xs → Some x ≡ Some e → slice_get xs q ≡ Some e → ⊥
not_after x [] q e h f g = cc
not_after x (y ∷ ys) zero e h f g =
    let one : x ≡ y = cc in
    not_before_itself x.index x.generation (subst (λ z. is_before x z ≡ true) (sym one) h.0)
not_after x (y ∷ ys) (suc q) e h f g = not_after x ys q e h.1 f g

pub rising-apart : (es : List Entity) → AreRising es → AreApart es
rising-apart [] h p q e f g = absurd (cc)
rising-apart (x ∷ xs) h zero zero e f g = refl
rising-apart (x ∷ xs) h zero (suc q) e f g = absurd (not_after x xs q e h.0 f g)
rising-apart (x ∷ xs) h (suc p) zero e f g = absurd (not_after x xs p e h.0 g f)
rising-apart (x ∷ xs) h (suc p) (suc q) e f g = ap suc (rising-apart xs h.1 p q e f g)

-- ---- row numbers in turn

numbers-within : (first count end : ℕ) → first + count ≤ end → AllByRecursion (λ row. row < end) (numbers_from first count)
numbers-within first zero end h = tt
numbers-within first (suc count) end h = (omega arith, numbers-within (suc first) count end (omega arith))

numbers-every : (first count row : ℕ) → first ≤ row → row < first + count → has row (numbers_from first count) ≡ true
numbers-every first zero row h k = absurd (omega arith)
numbers-every first (suc count) row h k = elim (cases_eq first row) [
  | inl same ↦ or_left (first == row) (has row (numbers_from (suc first) count)) (eq-eqb first row same)
  | inr other ↦ or_right (first == row) (has row (numbers_from (suc first) count)) (numbers-every (suc first) count row (omega arith) (omega arith))
]

pub length-numbers : (first count : ℕ) → length (numbers_from first count) ≡ count
length-numbers first zero = refl
length-numbers first (suc count) = ap suc (length-numbers (suc first) count)

pub numbers-at : (first count i d : ℕ) → i < count → get_or (numbers_from first count) i d ≡ first + i
numbers-at first zero i d l = absurd (omega arith)
numbers-at first (suc count) zero d l = (let e : first ≡ first + 0 = omega arith in e)
numbers-at first (suc count) (suc i) d l = numbers-at (suc first) count i d (omega arith) ∙ (let e : suc first + i ≡ first + suc i = omega arith in e)

-- the rows behind the first are those of the rest
numbers-behind : (x : Entity) (xs : List Entity) (first count : ℕ) → map (entity_at (x ∷ xs)) (numbers_from (suc first) count) ≡ map (entity_at xs) (numbers_from first count)
numbers-behind x xs first zero = refl
numbers-behind x xs first (suc count) = ap (λ es. entity_at xs first ∷ es) (numbers-behind x xs (suc first) count)

pub numbers-all : (es : List Entity) → map (entity_at es) (numbers_from 0 (length es)) ≡ es
numbers-all [] = refl
numbers-all (x ∷ xs) = ap (λ es. x ∷ es) (numbers-behind x xs 0 (length xs) ∙ numbers-all xs)

-- where ids rise, the row numbers in turn are their order
pub rising-ordered : (es : List Entity) → AreRising es → IsOrderOf es (numbers_from 0 (length es))
rising-ordered es h = record {
  within = numbers-within 0 (length es) (length es) (omega arith);
  every = λ row within. numbers-every 0 (length es) row (omega arith) (omega arith);
  rising = subst AreRising (sym (numbers-all es)) h;
}
