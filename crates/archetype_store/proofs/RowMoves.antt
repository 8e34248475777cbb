-- Rows of several entities that change at once.
use Rattle.archetype_store.proofs.Common.{◌≡◌, ℕ, zero, suc, ◌+◌, ◌<◌, ◌≤◌, ◌⊎◌, inl, inr, Bool, true, false, cond, ◌==◌, List, [], ◌∷◌, ◌++◌, length, set, drop, map, Option, Some, None, refl, sym, ap, ap₂, subst, ◌∙◌, arith, eq-eqb, ne_eqb, cases_eq, nat_tests, length-map, get_or-set_same, get_or-set_other, map-set_same, AllByRecursion, Component, TableValue, empty_table, EntityChange, EntityLocation, RowMove, StorageValue, row_of, holder_of, holder_if, place_of, holder_in, IsHolder, HasRow, HaveRows, row_changed, holder_changed, components_left, change_of, other_table, arrives_in, stays_there, is_table, one_if, coming_count, HaveRoom, HasLeft, IsPlanned, table_at, room_at, with_room, shape_of, is_in, apart_number, eqb-true}
use Rattle.archetype_store.proofs.PlacesAfterRowChange.{kinds_kept}

pub index_flipped : (i j : ℕ) → (i == j) ≡ false → (j == i) ≡ false
index_flipped i j h = grind (arith, nat_tests)

-- as many tables
pub as_many_tables : (T U : List TableValue) → map shape_of U ≡ map shape_of T → length U ≡ length T
as_many_tables T U h = sym (length-map U shape_of) ∙ ap length h ∙ length-map T shape_of

-- ---- rooms

other_within : (from : Option EntityLocation) (to : Option ℕ) (t : ℕ) → other_table from to ≡ Some t → to ≡ Some t
other_within from None t h = absurd (cc)
other_within from (Some u) t h = go (is_in from u) h
  where
    go : (b : Bool) → cond b None (Some u) ≡ Some t → Some u ≡ Some t
    go true k = absurd (cc)
    go false k = k

-- the table that a row comes into is there
pub arrives_within : (T : List TableValue) (P : List (Option EntityLocation)) (m : RowMove) (t : ℕ) → IsPlanned T P m → arrives_in P m ≡ Some t → t < length T
arrives_within T P m t plan h = (plan.to t (other_within (place_of P m.change.now.entity.index) m.to t h)).within

pub shapes_room : (T : List TableValue) (t room : ℕ) → map shape_of (set T t (with_room room (table_at T t))) ≡ map shape_of T
shapes_room T t room = map-set_same shape_of T t (with_room room (table_at T t)) (empty_table []) refl

-- a room more in one table
pub room_more : (T : List TableValue) (t : ℕ) → t < length T → (u : ℕ) → room_at (set T t (with_room (room_at T t + 1) (table_at T t))) u ≡ one_if (u == t) + room_at T u
room_more T t l u = go (cases_eq u t)
  where
    turned : (n : ℕ) → n + 1 ≡ 1 + n
    turned n = omega arith

    none : (n : ℕ) → n ≡ 0 + n
    none n = omega arith

    go : (u ≡ t) ⊎ (u ≡ t → ⊥) → room_at (set T t (with_room (room_at T t + 1) (table_at T t))) u ≡ one_if (u == t) + room_at T u
    go (inl same) = ap (room_at (set T t (with_room (room_at T t + 1) (table_at T t)))) same
        ∙ ap (λ (v : TableValue). v.room) (get_or-set_same T t (with_room (room_at T t + 1) (table_at T t)) (empty_table []) l)
        ∙ turned (room_at T t) ∙ ap₂ (λ b n. one_if b + n) (sym (eq-eqb u t same)) (ap (room_at T) (sym same))
    go (inr other) = ap (λ (v : TableValue). v.room) (get_or-set_other T t u (with_room (room_at T t + 1) (table_at T t)) (empty_table []) other)
        ∙ none (room_at T u) ∙ ap (λ b. one_if b + room_at T u) (sym (ne_eqb u t other))

count_more : (P : List (Option EntityLocation)) (ms : List RowMove) (m : RowMove) (t : ℕ) → coming_count P (ms ++ m ∷ []) t ≡ coming_count P ms t + one_if (is_table (arrives_in P m) t)
count_more P [] m t = omega arith
count_more P (x ∷ ms) m t = let e = count_more P ms m t in omega (arith, e)

-- one row more, which comes nowhere, or for which there is a room more
pub room_kept : (T : List TableValue) (P : List (Option EntityLocation)) (ms : List RowMove) (m : RowMove) → arrives_in P m ≡ None → HaveRoom T P ms → HaveRoom T P (ms ++ m ∷ [])
room_kept T P ms m none h t =
    let c = count_more P ms m t in let z : one_if (is_table (arrives_in P m) t) ≡ 0 = ap (λ o. one_if (is_table o t)) none in let r = h t in omega (arith, c, z, r)

pub room_made : (T T' : List TableValue) (P : List (Option EntityLocation)) (ms : List RowMove) (m : RowMove) (table : ℕ) → arrives_in P m ≡ Some table → table < length T →
    T' ≡ set T table (with_room (room_at T table + 1) (table_at T table)) → HaveRoom T P ms → HaveRoom T' P (ms ++ m ∷ [])
room_made T T' P ms m table at l is h t =
    let c = count_more P ms m t in
    let z : one_if (is_table (arrives_in P m) t) ≡ one_if (t == table) = ap (λ o. one_if (is_table o t)) at in
    let r = h t in let n = ap (λ ts. room_at ts t) is ∙ room_more T table l t in omega (arith, c, z, r, n)

-- ---- one row among others

-- where the others go stays
pub planned_rest : (T T' : List TableValue) (P P' : List (Option EntityLocation)) (m : RowMove) → map shape_of T' ≡ map shape_of T → length P' ≡ length P → IsPlanned T P m →
    place_of P' m.change.now.entity.index ≡ place_of P m.change.now.entity.index → IsPlanned T' P' m
planned_rest T T' P P' m shapes many plan same = record {
  within = (let l = plan.within in omega arith);
  holder = subst (λ o. IsHolder m.change.now.entity.generation (holder_in o)) (sym same) plan.holder;
  to = λ t is. (let to = plan.to t is in record { within = (let l = to.within in let n = as_many_tables T T' shapes in omega arith); kinds = kinds_kept T T' shapes t ∙ to.kinds; there = to.there });
  none = plan.none;
}

module _ (T T' : List TableValue) (P P' : List (Option EntityLocation)) (m : RowMove) (shapes : map shape_of T' ≡ map shape_of T) (many : length P' ≡ length P)
    (others : (i : ℕ) → (i ≡ m.change.now.entity.index → ⊥) → place_of P' i ≡ place_of P i) where
  pub planned_all_rest : (ms : List RowMove) → AllByRecursion (λ (d : EntityChange). (d.entity.index == m.change.now.entity.index) ≡ false) (map change_of ms) → AllByRecursion (IsPlanned T P) ms → AllByRecursion (IsPlanned T' P') ms
  planned_all_rest [] h plans = tt
  planned_all_rest (x ∷ ms) h plans = (
    planned_rest T T' P P' x shapes many plans.0 (others x.change.now.entity.index (apart_number x.change.now.entity.index m.change.now.entity.index h.0)),
    planned_all_rest ms h.1 plans.1,
  )

  pub gone_rest : (ms : List RowMove) → AllByRecursion (λ (d : EntityChange). (d.entity.index == m.change.now.entity.index) ≡ false) (map change_of ms) → AllByRecursion (HasLeft P) ms → AllByRecursion (HasLeft P') ms
  gone_rest [] h all = tt
  gone_rest (x ∷ ms) h all = (
    (λ moves. let same = others x.change.now.entity.index (apart_number x.change.now.entity.index m.change.now.entity.index h.0) in same ∙ all.0 (ap (λ o. stays_there o x.to) (sym same) ∙ moves)),
    gone_rest ms h.1 all.1,
  )

  counts_rest : (ms : List RowMove) (t : ℕ) → AllByRecursion (λ (d : EntityChange). (d.entity.index == m.change.now.entity.index) ≡ false) (map change_of ms) → coming_count P' ms t ≡ coming_count P ms t
  counts_rest [] t h = refl
  counts_rest (x ∷ ms) t h = ap₂ (λ o n. one_if (is_table (other_table o x.to) t) + n)
      (others x.change.now.entity.index (apart_number x.change.now.entity.index m.change.now.entity.index h.0)) (counts_rest ms t h.1)

  pub room_rest : (ms : List RowMove) → AllByRecursion (λ (d : EntityChange). (d.entity.index == m.change.now.entity.index) ≡ false) (map change_of ms) →
      ((t : ℕ) → room_at T t ≤ one_if (is_table (arrives_in P m) t) + room_at T' t) → HaveRoom T P (m ∷ ms) → HaveRoom T' P' ms
  room_rest ms h rooms have t = let a = counts_rest ms t h in let b = rooms t in let c = have t in omega (arith, a, b, c)

-- there is room for the first
pub room_first : (T : List TableValue) (P : List (Option EntityLocation)) (m : RowMove) (ms : List RowMove) → HaveRoom T P (m ∷ ms) → (t : ℕ) → arrives_in P m ≡ Some t → 0 < room_at T t
room_first T P m ms h t at =
    let one : one_if (is_table (arrives_in P m) t) ≡ 1 = ap (λ o. one_if (is_table o t)) at ∙ ap one_if (eq-eqb t t refl) in
    let have = h t in omega (arith, one, have)

-- ---- changes one after the other

both : {A : Type 0} (b d : Bool) (x y z : A) → (b ≡ true → d ≡ true → ⊥) → cond b x (cond d y z) ≡ cond d y (cond b x z)
both true true x y z h = absurd (h refl refl)
both true false x y z h = refl
both false true x y z h = refl
both false false x y z h = refl

not_both : (i x c : ℕ) → (x == c) ≡ false → (i == x) ≡ true → (i == c) ≡ true → ⊥
not_both i x c h a b = apart_number x c h (sym (eqb-true i x a) ∙ eqb-true i c b)

row_last : (xs : List EntityChange) (c : EntityChange) (i : ℕ) (row : List Component) → AllByRecursion (λ (d : EntityChange). (d.entity.index == c.entity.index) ≡ false) xs →
    row_changed (xs ++ c ∷ []) i row ≡ cond (i == c.entity.index) (components_left c.fate) (row_changed xs i row)
row_last [] c i row h = refl
row_last (x ∷ xs) c i row h = ap (cond (i == x.entity.index) (components_left x.fate)) (row_last xs c i row h.1)
    ∙ both (i == x.entity.index) (i == c.entity.index) (components_left x.fate) (components_left c.fate) (row_changed xs i row) (not_both i x.entity.index c.entity.index h.0)

holder_last : (xs : List EntityChange) (c : EntityChange) (i : ℕ) (holder : Option ℕ) → AllByRecursion (λ (d : EntityChange). (d.entity.index == c.entity.index) ≡ false) xs →
    holder_changed (xs ++ c ∷ []) i holder ≡ cond (i == c.entity.index) (holder_if (components_left c.fate) c.entity.generation) (holder_changed xs i holder)
holder_last [] c i holder h = refl
holder_last (x ∷ xs) c i holder h = ap (cond (i == x.entity.index) (holder_if (components_left x.fate) x.entity.generation)) (holder_last xs c i holder h.1)
    ∙ both (i == x.entity.index) (i == c.entity.index) (holder_if (components_left x.fate) x.entity.generation) (holder_if (components_left c.fate) c.entity.generation) (holder_changed xs i holder)
    (not_both i x.entity.index c.entity.index h.0)

-- one change more
pub rows_next : (A B C : StorageValue) (xs : List EntityChange) (c : EntityChange) → AllByRecursion (λ (d : EntityChange). (d.entity.index == c.entity.index) ≡ false) xs →
    HaveRows A xs B → HasRow B c.entity (components_left c.fate) C → HaveRows A (xs ++ c ∷ []) C
rows_next A B C xs c apart h k = record {
  rows = λ i. k.rows i ∙ ap (cond (i == c.entity.index) (components_left c.fate)) (h.rows i) ∙ sym (row_last xs c i (row_of A.rows i) apart);
  holders = λ i. k.holders i ∙ ap (cond (i == c.entity.index) (holder_if (components_left c.fate) c.entity.generation)) (h.holders i) ∙ sym (holder_last xs c i (holder_of A.holders i) apart);
}

pub map_drop : {A B : Type 0} (f : A → B) (n : ℕ) (xs : List A) → map f (drop n xs) ≡ drop n (map f xs)
map_drop f zero xs = refl
map_drop f (suc n) [] = refl
map_drop f (suc n) (x ∷ xs) = map_drop f n xs
