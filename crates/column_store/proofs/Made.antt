-- A table without rows.
use Rattle.column_store.proofs.Common.{◌≡◌, ℕ, zero, suc, ◌+◌, ◌<◌, ◌==◌, Bool, true, false, cond, ◌||◌, List, [], ◌∷◌, map, filter, refl, sym, ap, ap₂, subst, ◌∙◌, arith, list_any, AllByRecursion, Kind, kind_count, kind_number, has, Entity, in_order, AreBelow, AreApart, ColumnSlotValue, empty_table, Owned, standing_in, kind_in, empty_column, table_of, IsOfLength, IsTable}
use Rattle.kinds.specs.Kind.{numbers_from}

-- ---- kinds in order

-- whether a number is among those of kinds
pub any-map : (n : ℕ) (ks : List Kind) → list_any (λ k. kind_number k == n) ks ≡ has n (map kind_number ks)
any-map n [] = refl
any-map n (k ∷ ks) = ap (λ b. (kind_number k == n) || b) (any-map n ks)

kept_step : (b : Bool) (a : Kind) (xs : List Kind) (ys : List ℕ) → map kind_number xs ≡ ys → map kind_number (cond b (a ∷ xs) xs) ≡ cond b (kind_number a ∷ ys) ys
kept_step true a xs ys h = ap (λ zs. kind_number a ∷ zs) h
kept_step false a xs ys h = h

numbers_kept : (all ks : List Kind) → map kind_number (filter (λ kind. list_any (λ k. kind_number k == kind_number kind) ks) all) ≡ filter (λ n. has n (map kind_number ks)) (map kind_number all)
numbers_kept [] ks = refl
numbers_kept (a ∷ all) ks =
    kept_step (list_any (λ k. kind_number k == kind_number a) ks) a _ _ (numbers_kept all ks)
    ∙ ap (λ b. cond b (kind_number a ∷ filter (λ n. has n (map kind_number ks)) (map kind_number all)) (filter (λ n. has n (map kind_number ks)) (map kind_number all)))
    (any-map (kind_number a) ks)

-- those of all kinds that are among some are these in order
pub numbers_in_order : (all ks made : List Kind) → map kind_number all ≡ numbers_from 0 kind_count → made ≡ filter (λ kind. list_any (λ k. kind_number k == kind_number kind) ks) all →
    map kind_number made ≡ in_order (map kind_number ks)
numbers_in_order all ks made every h = ap (map kind_number) h ∙ numbers_kept all ks ∙ ap (filter (λ n. has n (map kind_number ks))) every

above_from : (m n count : ℕ) → m < n → AllByRecursion (λ x. m < x) (numbers_from n count)
above_from m n zero h = tt
above_from m n (suc count) h = (h, above_from m (1 + n) count (omega arith))

below_from : (n count : ℕ) → AreBelow (numbers_from n count)
below_from n zero = tt
below_from n (suc count) = (above_from n (1 + n) count (omega arith), below_from (1 + n) count)

each_filter : (P : ℕ → Type 0) (p : ℕ → Bool) (xs : List ℕ) → AllByRecursion P xs → AllByRecursion P (filter p xs)
each_filter P p [] h = tt
each_filter P p (x ∷ xs) h = go (p x) (each_filter P p xs h.1)
  where
    go : (b : Bool) → AllByRecursion P (filter p xs) → AllByRecursion P (cond b (x ∷ filter p xs) (filter p xs))
    go true k = (h.0, k)
    go false k = k

below_filter : (p : ℕ → Bool) (xs : List ℕ) → AreBelow xs → AreBelow (filter p xs)
below_filter p [] h = tt
below_filter p (x ∷ xs) h = go (p x) (each_filter (λ m. x < m) p xs h.0) (below_filter p xs h.1)
  where
    go : (b : Bool) → AllByRecursion (λ m. x < m) (filter p xs) → AreBelow (filter p xs) → AreBelow (cond b (x ∷ filter p xs) (filter p xs))
    go true k l = (k, l)
    go false k l = l

-- ---- a table without rows

empty_kinds : (ks : List Kind) → map kind_in (map empty_column ks) ≡ map kind_number ks
empty_kinds [] = refl
empty_kinds (k ∷ ks) = ap (λ ns. kind_number k ∷ ns) (empty_kinds ks)

empty_lengths : (ks : List Kind) → AllByRecursion (IsOfLength 0) (map empty_column ks)
empty_lengths [] = tt
empty_lengths (k ∷ ks) = (refl, empty_lengths ks)

empty_standings : (ks : List Kind) → map standing_in (map empty_column ks) ≡ map (λ _. Owned) (map kind_number ks)
empty_standings [] = refl
empty_standings (k ∷ ks) = ap (λ ss. Owned ∷ ss) (empty_standings ks)

none_apart : AreApart []
none_apart p q e f g = absurd (cc)

empty_kept : (ks : List Kind) → AreBelow (map kind_number ks) → IsTable (map kind_number ks) [] (map empty_column ks)
empty_kept ks h = record { below = h; apart = none_apart; of_kinds = empty_kinds ks; of_length = empty_lengths ks }

pub made_kept : (ks given : List Kind) (es : List Entity) (ps : List ColumnSlotValue) → map kind_number ks ≡ in_order (map kind_number given) → es ≡ [] → ps ≡ map empty_column ks →
    IsTable (map kind_number ks) es ps
made_kept ks given es ps k e p =
    let below = subst AreBelow (sym k) (below_filter (λ n. has n (map kind_number given)) (numbers_from 0 kind_count) (below_from 0 kind_count)) in
    subst (IsTable (map kind_number ks) es) (sym p) (subst (λ xs. IsTable (map kind_number ks) xs (map empty_column ks)) (sym e) (empty_kept ks below))

pub made_view : (ks given : List Kind) (es : List Entity) (ps : List ColumnSlotValue) → map kind_number ks ≡ in_order (map kind_number given) → es ≡ [] → ps ≡ map empty_column ks →
    table_of (map kind_number ks) es ps ≡ empty_table (in_order (map kind_number given))
made_view ks given es ps k e p =
    ap₂ (table_of (map kind_number ks)) e p ∙ ap (λ ss. record (empty_table (map kind_number ks)) { standings = ss }) (empty_standings ks) ∙ ap empty_table k
