-- Rows and kinds by their places.
use Rattle.column_store.proofs.Common.{◌≡◌, ℕ, zero, suc, ◌+◌, ◌<◌, ◌≤◌, ◌==◌, nat_lt, cond, Bool, true, false, not, List, [], ◌∷◌, length, get_or, map, Some, None, refl, ap, ◌∙◌, arith, nat_tests, position, position_or_len, slice_get, update_at, Entity, is_same, at_kind, update_kind, IsPlace, IsNowhere, TableRow, row_of}

-- ---- the row of an entity, by its place

pub row_of-place : (e : Entity) (rows : List TableRow) (i : ℕ) (d : TableRow) → IsPlace (λ row. is_same row.entity e) rows i → row_of e rows ≡ Some (get_or rows i d)
row_of-place e [] i d p = absurd p
row_of-place e (row ∷ rows) zero d p = ap (λ b. cond b (Some row) (row_of e rows)) p
row_of-place e (row ∷ rows) (suc i) d p = ap (λ b. cond b (Some row) (row_of e rows)) p.0 ∙ row_of-place e rows i d p.1

-- ---- a kind, by its place

pub at_kind-place : {A : Type 0} (k : ℕ) (ns : List ℕ) (xs : List A) (j : ℕ) → IsPlace (λ n. n == k) ns j → length ns ≡ length xs → at_kind ns k xs ≡ slice_get xs j
at_kind-place k [] xs j p l = absurd p
at_kind-place k (n ∷ ns) [] j p l = absurd (omega arith)
at_kind-place k (n ∷ ns) (x ∷ xs) zero p l = ap (λ b. cond b (Some x) (at_kind ns k xs)) p
at_kind-place k (n ∷ ns) (x ∷ xs) (suc j) p l = ap (λ b. cond b (Some x) (at_kind ns k xs)) p.0 ∙ at_kind-place k ns xs j p.1 (omega arith)

pub at_kind-nowhere : {A : Type 0} (k : ℕ) (ns : List ℕ) (xs : List A) → IsNowhere (λ n. n == k) ns → at_kind ns k xs ≡ None
at_kind-nowhere k [] xs p = refl
at_kind-nowhere k (n ∷ ns) [] p = refl
at_kind-nowhere k (n ∷ ns) (x ∷ xs) p = ap (λ b. cond b (Some x) (at_kind ns k xs)) p.0 ∙ at_kind-nowhere k ns xs p.1

pub update_kind-place : {A : Type 0} (k : ℕ) (f : A → A) (ns : List ℕ) (xs : List A) (j : ℕ) → IsPlace (λ n. n == k) ns j → update_kind ns k f xs ≡ update_at j f xs
update_kind-place k f [] xs j p = absurd p
update_kind-place k f (n ∷ ns) [] j p = refl
update_kind-place k f (n ∷ ns) (x ∷ xs) zero p = ap (λ b. cond b (f x ∷ xs) (x ∷ update_kind ns k f xs)) p
update_kind-place k f (n ∷ ns) (x ∷ xs) (suc j) p =
    ap (λ b. cond b (f x ∷ xs) (x ∷ update_kind ns k f xs)) p.0 ∙ ap (λ ys. x ∷ ys) (update_kind-place k f ns xs j p.1)

-- ---- what `position` gives

place_first : (b : Bool) (n : ℕ) → 0 ≡ cond (not b) (1 + n) 0 → b ≡ true
place_first true n h = refl
place_first false n h = absurd (omega arith)

place_next : (b : Bool) (n i : ℕ) → suc i ≡ cond (not b) (1 + n) 0 → (b ≡ false) × (i ≡ n)
place_next true n i h = absurd (omega arith)
place_next false n i h = (refl, omega arith)

place_len : {A B : Type 0} (f : A → B) (test : B → Bool) (xs : List A) (i : ℕ) → i ≡ position_or_len (λ x. test (f x)) xs → i < length xs → IsPlace test (map f xs) i
place_len f test [] i h l = absurd (omega arith)
place_len f test (x ∷ xs) zero h l = place_first (test (f x)) _ h
place_len f test (x ∷ xs) (suc i) h l = let p = place_next (test (f x)) _ i h in (p.0, place_len f test xs i p.1 (omega arith))

nowhere_step : (b : Bool) (n l : ℕ) → suc l ≤ cond (not b) (1 + n) 0 → (b ≡ false) × (l ≤ n)
nowhere_step true n l h = absurd (omega arith)
nowhere_step false n l h = (refl, omega arith)

nowhere_len : {A B : Type 0} (f : A → B) (test : B → Bool) (xs : List A) → length xs ≤ position_or_len (λ x. test (f x)) xs → IsNowhere test (map f xs)
nowhere_len f test [] h = tt
nowhere_len f test (x ∷ xs) h = let p = nowhere_step (test (f x)) _ (length xs) h in (p.0, nowhere_len f test xs p.1)

pub some_place : (n m i : ℕ) → cond (nat_lt n m) (Some n) None ≡ Some i → (i ≡ n) × (i < m)
some_place n m i h = grind (arith, nat_tests)

no_place : (n m : ℕ) → cond (nat_lt n m) (Some n) None ≡ None → m ≤ n
no_place n m h = grind (arith, nat_tests)

-- the first element that passes
pub place_from_position : {A B : Type 0} (f : A → B) (test : B → Bool) (xs : List A) (i : ℕ) → position (λ x. test (f x)) xs ≡ Some i → IsPlace test (map f xs) i
place_from_position f test xs i h = let p = some_place _ (length xs) i h in place_len f test xs i p.0 p.1

pub nowhere_from_position : {A B : Type 0} (f : A → B) (test : B → Bool) (xs : List A) → position (λ x. test (f x)) xs ≡ None → IsNowhere test (map f xs)
nowhere_from_position f test xs h = nowhere_len f test xs (no_place _ (length xs) h)
