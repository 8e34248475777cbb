-- Insertions in a row, at the place that a search found.
use Rattle.archetype_store.proofs.Common.{◌≡◌, ℕ, zero, suc, ◌<◌, true, false, cond, ◌==◌, nat_lt, nat_le, List, [], ◌∷◌, length, get_or, set, map, Some, sym, ap, ◌∙◌, arith, position, insert, eq-eqb, nat_tests, position-Some, Value, value_number, value_words, Component, changed_component, insert_component, StampedValue, component_of, added_at}
use Rattle.archetype_store.proofs.Rows.{is_from}

-- the component with another value at a tick
abbrev pub replaced_by : ℕ → Value → StampedValue → StampedValue
replaced_by tick value s = record { value = value; stamp = record { added = s.stamp.added; changed = tick } }

-- a lesser kind is passed by
passed : (n k : ℕ) (a b r s : List Component) (x : Component) → nat_le k n ≡ false → r ≡ s → x ∷ r ≡ cond (n == k) a (cond (nat_lt k n) b (x ∷ s))
passed n k a b r s x low more = grind (arith, nat_tests)

-- at a greater kind the new component is put
put_before : (n k : ℕ) (a b c : List Component) → nat_le k n ≡ true → (n ≡ k → ⊥) → b ≡ cond (n == k) a (cond (nat_lt k n) b c)
put_before n k a b c from other = grind (arith, nat_tests)

-- the component of the kind is replaced
replaced_here : (t : ℕ) (v : Value) (x : StampedValue) (b c : List Component) (xs : List StampedValue) → value_number x.value ≡ value_number v →
    component_of (replaced_by t v x) ∷ map component_of xs ≡ cond (value_number x.value == value_number v) (changed_component t (value_words v) (component_of x) ∷ map component_of xs) (cond (nat_lt (value_number v) (value_number x.value)) b c)
replaced_here t v x b c xs same =
    sym (ap (λ test. cond test (changed_component t (value_words v) (component_of x) ∷ map component_of xs) (cond (nat_lt (value_number v) (value_number x.value)) b c)) (eq-eqb (value_number x.value) (value_number v) same)
    ∙ ap (λ n. (let d : Component = record { kind = n; cell = record { words = value_words v; added = x.stamp.added; changed = t } } in d) ∷ map component_of xs) same)

replaced_at : (t : ℕ) (v : Value) (xs : List StampedValue) (i : ℕ) (d : StampedValue) → i < length xs → ((j : ℕ) → j < i → is_from (value_number v) (get_or xs j d) ≡ false) →
    value_number (get_or xs i d).value ≡ value_number v →
    map component_of (set xs i (replaced_by t v (get_or xs i d))) ≡ insert_component t (value_number v) (value_words v) (map component_of xs)
replaced_at t v [] i d l low same = absurd (omega arith)
replaced_at t v (x ∷ xs) zero d l low same = replaced_here t v x _ _ xs same
replaced_at t v (x ∷ xs) (suc i) d l low same = passed (value_number x.value) (value_number v) _ _ _ _ (component_of x) (low zero (omega arith))
    (replaced_at t v xs i d (omega arith) (λ j m. low (suc j) (omega arith)) same)

inserted_at : (t : ℕ) (v : Value) (xs : List StampedValue) (i : ℕ) (d : StampedValue) → i < length xs → ((j : ℕ) → j < i → is_from (value_number v) (get_or xs j d) ≡ false) →
    is_from (value_number v) (get_or xs i d) ≡ true → (value_number (get_or xs i d).value ≡ value_number v → ⊥) →
    map component_of (insert xs i (added_at t v)) ≡ insert_component t (value_number v) (value_words v) (map component_of xs)
inserted_at t v [] i d l low from other = absurd (omega arith)
inserted_at t v (x ∷ xs) zero d l low from other = put_before (value_number x.value) (value_number v) _ _ _ from other
inserted_at t v (x ∷ xs) (suc i) d l low from other = passed (value_number x.value) (value_number v) _ _ _ _ (component_of x) (low zero (omega arith))
    (inserted_at t v xs i d (omega arith) (λ j m. low (suc j) (omega arith)) from other)

-- ---- from the place that was found

-- a component of the kind stands there
pub put_over : (t : ℕ) (v : Value) (xs : List StampedValue) (i : ℕ) (s : StampedValue) → position (is_from (value_number v)) xs ≡ Some i → s ≡ get_or xs i s → value_number s.value ≡ value_number v →
    map component_of (set xs i (replaced_by t v s)) ≡ insert_component t (value_number v) (value_words v) (map component_of xs)
put_over t v xs i s found is same =
    let at = position-Some (is_from (value_number v)) xs i s found in
    ap (λ r. map component_of (set xs i (replaced_by t v r))) is
    ∙ replaced_at t v xs i s at.0 at.2 (ap (λ (r : StampedValue). value_number r.value) (sym is) ∙ same)

-- one of a greater kind does
pub put_at : (t : ℕ) (v : Value) (xs : List StampedValue) (i : ℕ) (s : StampedValue) → position (is_from (value_number v)) xs ≡ Some i → s ≡ get_or xs i s → (value_number s.value ≡ value_number v → ⊥) →
    map component_of (insert xs i (added_at t v)) ≡ insert_component t (value_number v) (value_words v) (map component_of xs)
put_at t v xs i s found is other =
    let at = position-Some (is_from (value_number v)) xs i s found in
    inserted_at t v xs i s at.0 at.2 at.1 (λ same. other (ap (λ (r : StampedValue). value_number r.value) is ∙ same))
