-- Rows as lists of stamped components.
use Rattle.archetype_store.proofs.Common.{◌≡◌, ℕ, zero, suc, ◌+◌, ◌<◌, ◌≤◌, Bool, true, false, not, cond, ◌==◌, nat_lt, nat_le, ℤ, List, [], ◌∷◌, ◌++◌, length, map, sym, ◌∙◌, Option, Some, None, refl, ap, arith, position, position_or_len, remove, map-append, nat_tests, Value, value_number, value_words, Cell, Component, cell_at, new_component, insert_component, remove_component, StampedValue, component_of, added_at}
use Rattle.column_store.proofs.Rows.{some_place}

le_step : (b : Bool) (p l : ℕ) → p ≤ l → cond (not b) (1 + p) 0 ≤ suc l
le_step true p l h = omega arith
le_step false p l h = omega arith

position_or_len-le : {X : Type 0} (p : X → Bool) (xs : List X) → position_or_len p xs ≤ length xs
position_or_len-le p [] = omega arith
position_or_len-le p (x ∷ xs) = le_step (p x) _ _ (position_or_len-le p xs)

no_place : (n m : ℕ) → n ≤ m → cond (nat_lt n m) (Some n) None ≡ None → n ≡ m
no_place n m l h = grind (arith, nat_tests)

-- what a place that was found is
position-some : {X : Type 0} (p : X → Bool) (xs : List X) (i : ℕ) → position p xs ≡ Some i → (i ≡ position_or_len p xs) × (i < length xs)
position-some p xs i h = some_place (position_or_len p xs) (length xs) i h

-- what it means that none was found
position-none : {X : Type 0} (p : X → Bool) (xs : List X) → position p xs ≡ None → position_or_len p xs ≡ length xs
position-none p xs h = no_place (position_or_len p xs) (length xs) (position_or_len-le p xs) h

-- whether the kind of a component has no lesser number
abbrev pub is_from : ℕ → StampedValue → Bool
is_from k s = nat_le k (value_number s.value)

none_step : (n k p l : ℕ) (a b r s : List Component) (x : Component) → cond (not (nat_le k n)) (1 + p) 0 ≡ suc l → (p ≡ l → r ≡ s) → cond (n == k) a (cond (nat_lt k n) b (x ∷ r)) ≡ x ∷ s
none_step n k p l a b r s x h more = grind (arith, nat_tests)

-- a kind above all others is added at the end
insert-none : (t k : ℕ) (w : List ℤ) (xs : List StampedValue) → position_or_len (is_from k) xs ≡ length xs → insert_component t k w (map component_of xs) ≡ map component_of xs ++ new_component t k w ∷ []
insert-none t k w [] h = refl
insert-none t k w (x ∷ xs) h = none_step (value_number x.value) k _ (length xs) _ _ _ _ _ h (insert-none t k w xs)

-- whether a component is of a kind
abbrev pub is_of : ℕ → StampedValue → Bool
is_of k s = value_number s.value == k

cell_none_step : (n k p l : ℕ) (c : Cell) (r : Option Cell) → cond (not (n == k)) (1 + p) 0 ≡ suc l → (p ≡ l → r ≡ None) → cond (n == k) (Some c) r ≡ None
cell_none_step n k p l c r h more = grind (arith, nat_tests)

-- what a row without the kind has of it
cell_at-none : (k : ℕ) (xs : List StampedValue) → position_or_len (is_of k) xs ≡ length xs → cell_at (map component_of xs) k ≡ None
cell_at-none k [] h = refl
cell_at-none k (x ∷ xs) h = cell_none_step (value_number x.value) k _ (length xs) _ _ h (cell_at-none k xs)

-- ---- what a row's calls give, from the place that was found

pub find-none : (k : ℕ) (xs : List StampedValue) → position (is_of k) xs ≡ None → cell_at (map component_of xs) k ≡ None
find-none k xs h = cell_at-none k xs (position-none (is_of k) xs h)

pub put-none : (t : ℕ) (v : Value) (xs : List StampedValue) → position (is_from (value_number v)) xs ≡ None → map component_of (xs ++ added_at t v ∷ []) ≡ insert_component t (value_number v) (value_words v) (map component_of xs)
put-none t v xs h = map-append component_of xs (added_at t v ∷ []) ∙ sym (insert-none t (value_number v) (value_words v) xs (position-none _ xs h))

-- ---- a removal

here_step : (b : Bool) (p : ℕ) (r s : List Component) → 0 ≡ cond (not b) (1 + p) 0 → r ≡ cond b r s
here_step true p r s h = refl
here_step false p r s h = absurd (omega (arith, h))

next_step : (b : Bool) (p i : ℕ) (x : Component) (a r s : List Component) → suc i ≡ cond (not b) (1 + p) 0 → (i ≡ p → r ≡ s) → x ∷ r ≡ cond b a (x ∷ s)
next_step true p i x a r s h more = absurd (omega (arith, h))
next_step false p i x a r s h more = ap (λ ys. x ∷ ys) (more (omega (arith, h)))

removed_at : (k : ℕ) (xs : List StampedValue) (i : ℕ) → i ≡ position_or_len (is_of k) xs → i < length xs → map component_of (remove xs i) ≡ remove_component k (map component_of xs)
removed_at k [] i h l = absurd (omega arith)
removed_at k (x ∷ xs) zero h l = here_step (is_of k x) _ _ _ h
removed_at k (x ∷ xs) (suc i) h l = next_step (is_of k x) _ i _ _ _ _ h (λ e. removed_at k xs i e (omega arith))

-- the component that was found is removed
pub remove-some : (k : ℕ) (xs : List StampedValue) (i : ℕ) → position (is_of k) xs ≡ Some i → map component_of (remove xs i) ≡ remove_component k (map component_of xs)
remove-some k xs i h = let r = position-some (is_of k) xs i h in removed_at k xs i r.0 r.1
