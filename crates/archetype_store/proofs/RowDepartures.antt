-- Rows that leave their tables, of several that move.
use Rattle.archetype_store.proofs.Common.{◌≡◌, ℕ, zero, suc, ◌+◌, ◌<◌, Bool, true, false, cond, ◌==◌, List, [], ◌∷◌, length, get_or, map, Option, Some, None, refl, sym, ap, ap₂, subst, ◌∙◌, arith, AllByRecursion, Component, TableValue, EntityChange, EntityLocation, RowMove, StorageValue, row_of, holder_of, place_of, holder_in, row_changed, holder_changed, holder_if, IsHolder, HasRow, HaveRows, components_left, AreOfOtherIndices, change_of, other_table, arrives_in, stays_there, stays_in, is_table, one_if, coming_count, HaveRoom, IsPlanned, AreAlikeBut, AreAlikeBefore, room_at, shape_of}
use Rattle.archetype_store.proofs.PlacesAfterRowChange.{kinds_kept}
use Rattle.archetype_store.proofs.RowMoves.{index_flipped, as_many_tables}

-- ---- one row

leaving_to : (from : Option EntityLocation) (to : Option ℕ) → stays_there from to ≡ false → other_table None to ≡ other_table from to
leaving_to from None h = refl
leaving_to from (Some t) h = ap (λ b. cond b None (let o : Option ℕ = Some t in o)) (sym h)

-- a row that has left comes where it would have come
pub arrives_cleared : (P P' : List (Option EntityLocation)) (m : RowMove) → place_of P' m.change.now.entity.index ≡ None → stays_in P m ≡ false → arrives_in P' m ≡ arrives_in P m
arrives_cleared P P' m none h = ap (λ o. other_table o m.to) none ∙ leaving_to (place_of P m.change.now.entity.index) m.to h

pub planned_cleared : (T T' : List TableValue) (P P' : List (Option EntityLocation)) (m : RowMove) → map shape_of T' ≡ map shape_of T → length P' ≡ length P → IsPlanned T P m →
    place_of P' m.change.now.entity.index ≡ None → IsPlanned T' P' m
planned_cleared T T' P P' m shapes many plan none = record {
  within = (let l = plan.within in omega arith);
  holder = subst (λ o. IsHolder m.change.now.entity.generation (holder_in o)) (sym none) tt;
  to = λ t is. (let to = plan.to t is in record { within = (let l = to.within in let n = as_many_tables T T' shapes in omega arith); kinds = kinds_kept T T' shapes t ∙ to.kinds; there = to.there });
  none = plan.none;
}

pub cleared_but : (A B : StorageValue) (index generation : ℕ) → HasRow A (record { index = index; generation = generation }) [] B → AreAlikeBut A index B
cleared_but A B index generation h = record {
  rows = λ i other. h.rows i ∙ ap (λ b. cond b [] (row_of A.rows i)) other;
  holders = λ i other. h.holders i ∙ ap (λ b. cond b None (holder_of A.holders i)) other;
}

-- ---- one row among others

module _ (m : RowMove) (P Q : RowMove → Type 0) (others : (x : RowMove) → (x.change.now.entity.index == m.change.now.entity.index) ≡ false → P x → Q x) (here : P m → Q m) where
  all_others : (rows : List RowMove) → AllByRecursion (λ (d : EntityChange). (d.entity.index == m.change.now.entity.index) ≡ false) (map change_of rows) → AllByRecursion P rows → AllByRecursion Q rows
  all_others [] h ps = tt
  all_others (x ∷ xs) h ps = (others x h.0 ps.0, all_others xs h.1 ps.1)

  later_other : (i : ℕ) (rows : List RowMove) (n : ℕ) → n < length rows → get_or rows n m ≡ m → AllByRecursion (λ (d : EntityChange). (d.entity.index == i) ≡ false) (map change_of rows) → (m.change.now.entity.index == i) ≡ false
  later_other i [] n l is h = absurd (omega arith)
  later_other i (x ∷ xs) zero l is h = subst (λ (y : RowMove). (y.change.now.entity.index == i) ≡ false) is h.0
  later_other i (x ∷ xs) (suc n) l is h = later_other i xs n (omega arith) is h.1

  -- what holds of all rows, where one of them is done
  pub all_stepped : (rows : List RowMove) (n : ℕ) → n < length rows → get_or rows n m ≡ m → AreOfOtherIndices (map change_of rows) → AllByRecursion P rows → AllByRecursion Q rows
  all_stepped [] n l is apart ps = tt
  all_stepped (x ∷ xs) zero l is apart ps = (
    subst Q (sym is) (here (subst P is ps.0)),
    all_others xs (subst (λ (y : RowMove). AllByRecursion (λ (d : EntityChange). (d.entity.index == y.change.now.entity.index) ≡ false) (map change_of xs)) is apart.0) ps.1,
  )
  all_stepped (x ∷ xs) (suc n) l is apart ps = (
    others x (index_flipped m.change.now.entity.index x.change.now.entity.index (later_other x.change.now.entity.index xs n (omega arith) is apart.0)) ps.0,
    all_stepped xs n (omega arith) is apart.1 ps.1,
  )

-- ---- rooms

counts_same : (P P' : List (Option EntityLocation)) (ms : List RowMove) (t : ℕ) → AllByRecursion (λ (m : RowMove). arrives_in P' m ≡ arrives_in P m) ms → coming_count P' ms t ≡ coming_count P ms t
counts_same P P' [] t h = refl
counts_same P P' (m ∷ ms) t h = ap₂ (λ o n. one_if (is_table o t) + n) h.0 (counts_same P P' ms t h.1)

pub room_after : (T T' : List TableValue) (P P' : List (Option EntityLocation)) (ms : List RowMove) → AllByRecursion (λ (m : RowMove). arrives_in P' m ≡ arrives_in P m) ms → ((t : ℕ) → room_at T' t ≡ room_at T t) →
    HaveRoom T P ms → HaveRoom T' P' ms
room_after T T' P P' ms arrives rooms h t = let a = counts_same P P' ms t arrives in let b = rooms t in let k = h t in omega (arith, a, b, k)

pub arrives_first : (P : List (Option EntityLocation)) (ms : List RowMove) → AllByRecursion (λ (m : RowMove). arrives_in P m ≡ arrives_in P m) ms
arrives_first P [] = tt
arrives_first P (m ∷ ms) = (refl, arrives_first P ms)

-- ---- the rows of others

row_either : (cs : List EntityChange) (n : ℕ) (c : EntityChange) (i : ℕ) (x y : List Component) → n < length cs → get_or cs n c ≡ c → (i == c.entity.index) ≡ true → row_changed cs i x ≡ row_changed cs i y
row_either [] n c i x y l is at = absurd (omega arith)
row_either (d ∷ cs) zero c i x y l is at =
    let e : (i == d.entity.index) ≡ true = ap (λ (z : EntityChange). i == z.entity.index) is ∙ at in
    ap (λ b. cond b (components_left d.fate) (row_changed cs i x)) e ∙ sym (ap (λ b. cond b (components_left d.fate) (row_changed cs i y)) e)
row_either (d ∷ cs) (suc n) c i x y l is at = ap (cond (i == d.entity.index) (components_left d.fate)) (row_either cs n c i x y (omega arith) is at)

holder_either : (cs : List EntityChange) (n : ℕ) (c : EntityChange) (i : ℕ) (x y : Option ℕ) → n < length cs → get_or cs n c ≡ c → (i == c.entity.index) ≡ true → holder_changed cs i x ≡ holder_changed cs i y
holder_either [] n c i x y l is at = absurd (omega arith)
holder_either (d ∷ cs) zero c i x y l is at =
    let e : (i == d.entity.index) ≡ true = ap (λ (z : EntityChange). i == z.entity.index) is ∙ at in
    let left = holder_if (components_left d.fate) d.entity.generation in
    ap (λ b. cond b left (holder_changed cs i x)) e ∙ sym (ap (λ b. cond b left (holder_changed cs i y)) e)
holder_either (d ∷ cs) (suc n) c i x y l is at = ap (cond (i == d.entity.index) (holder_if (components_left d.fate) d.entity.generation)) (holder_either cs n c i x y (omega arith) is at)

pub alike_first : (A : StorageValue) (cs : List EntityChange) → AreAlikeBefore A cs A
alike_first A cs = record { rows = λ i. refl; holders = λ i. refl }

-- the row of one of those that change may be what it will
pub alike_next : (A B C : StorageValue) (cs : List EntityChange) (n : ℕ) (c : EntityChange) → n < length cs → get_or cs n c ≡ c → AreAlikeBefore A cs B → AreAlikeBut B c.entity.index C → AreAlikeBefore A cs C
alike_next A B C cs n c l is h k = record { rows = λ i. rows_at i (i == c.entity.index) refl ∙ h.rows i; holders = λ i. holders_at i (i == c.entity.index) refl ∙ h.holders i }
  where
    rows_at : (i : ℕ) (b : Bool) → (i == c.entity.index) ≡ b → row_changed cs i (row_of C.rows i) ≡ row_changed cs i (row_of B.rows i)
    rows_at i true at = row_either cs n c i (row_of C.rows i) (row_of B.rows i) l is at
    rows_at i false other = ap (row_changed cs i) (k.rows i other)

    holders_at : (i : ℕ) (b : Bool) → (i == c.entity.index) ≡ b → holder_changed cs i (holder_of C.holders i) ≡ holder_changed cs i (holder_of B.holders i)
    holders_at i true at = holder_either cs n c i (holder_of C.holders i) (holder_of B.holders i) l is at
    holders_at i false other = ap (holder_changed cs i) (k.holders i other)

pub rows_from_before : (A B C : StorageValue) (cs : List EntityChange) → AreAlikeBefore A cs B → HaveRows B cs C → HaveRows A cs C
rows_from_before A B C cs alike h = record { rows = λ i. h.rows i ∙ alike.rows i; holders = λ i. h.holders i ∙ alike.holders i }
