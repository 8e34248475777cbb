-- What a change of one row leaves in tables.
use Rattle.archetype_store.proofs.Common.{◌≡◌, ◌≢◌, ℕ, zero, suc, ◌+◌, ◌-◌, ◌<◌, ◌≤◌, Bool, true, false, cond, ◌==◌, ◌⊎◌, inl, inr, List, [], ◌∷◌, ◌++◌, length, set, map, Option, Some, None, option_map, is_some, option_and_then, Result, Ok, Err, OnOk, refl, sym, ap, ap₂, subst, ◌∙◌, arith, cases_eq, eq-eqb, ne_eqb, get_or-set_same, get_or-set_other, length-map, map-append, map-set_same, AllByRecursion, list_all, slice_get, is_there, update_at, Component, cell_at, Entity, StampedValue, stamped_number, stamped_cell, AreBelow, is_same, AreApart, IsPlace, swap_removed, components_in, components_of, TableRow, TableValue, is_owned, new_row, renewed_row, empty_table, cell_of_kind, cell_in_row, component_of, IsShape, archetype_of, layout_of, table_at, kinds_at, held_in, held_at, room_at, entities_at, row_or_none, shape_of, AreShaped, AreUnlike, AreOwned, IsHeldNow, IsGrown, IsOneTable}
use Rattle.column_store.specs.Table.{row_of}
use Rattle.column_store.proofs.Apart.{same_self, same_entity, get_within, apart-place}
use Rattle.column_store.proofs.Edited.{head_none}
use Rattle.column_store.proofs.Kept.{apart-swap}
use Rattle.column_store.proofs.Lists.{get-map, map-update_at_same}
use Rattle.column_store.proofs.Rows.{row_of-place}
use Rattle.column_store.proofs.Swapped.{length-swap_removed, map-swap_removed, get-swap_here, get-swap_other}
use Rattle.column_store.proofs.TheirComponents.{cells_are_theirs}
use Rattle.model.proofs.lists.Places.{get-there, each-push}

-- ---- rows of one table

place_map : {A B : Type 0} (test : B → Bool) (f : A → B) (xs : List A) (i : ℕ) → IsPlace test (map f xs) i → IsPlace (λ x. test (f x)) xs i
place_map test f [] i h = h
place_map test f (x ∷ xs) zero h = h
place_map test f (x ∷ xs) (suc i) h = (h.0, place_map test f xs i h.1)

get_map : {A B : Type 0} (f : A → B) (xs : List A) (i : ℕ) (x : A) → slice_get xs i ≡ Some x → slice_get (map f xs) i ≡ Some (f x)
get_map f xs i x h = get-map f xs i ∙ ap (option_map f) h

-- the place of an entity's row, where none is there twice
pub row_place : (rows : List TableRow) (i : ℕ) (e : Entity) → AreApart (map (λ (row : TableRow). row.entity) rows) → slice_get (map (λ (row : TableRow). row.entity) rows) i ≡ Some e →
    IsPlace (λ (row : TableRow). is_same row.entity e) rows i
row_place rows i e apart at = place_map (λ x. is_same x e) (λ (row : TableRow). row.entity) rows i (apart-place e (map (λ (row : TableRow). row.entity) rows) i apart at)

pub row_within : (rows : List TableRow) (i : ℕ) (e : Entity) → slice_get (map (λ (row : TableRow). row.entity) rows) i ≡ Some e → i < length rows
row_within rows i e at = let l = get_within (map (λ (row : TableRow). row.entity) rows) i e at in omega (arith, length-map rows (λ (row : TableRow). row.entity))

-- its row is there
pub row_at : (rows : List TableRow) (i : ℕ) (e : Entity) → AreApart (map (λ (row : TableRow). row.entity) rows) → slice_get (map (λ (row : TableRow). row.entity) rows) i ≡ Some e → row_of e rows ≡ slice_get rows i
row_at rows i e apart at =
    let d : TableRow = record { entity = e; cells = [] } in
    row_of-place e rows i d (row_place rows i e apart at) ∙ sym (get-there rows i d (row_within rows i e at))

-- a row that is found is somewhere
row_found : (rows : List TableRow) (x : Entity) (r : TableRow) → row_of x rows ≡ Some r → (i : ℕ) × (slice_get rows i ≡ Some r) × (r.entity ≡ x)
row_found [] x r h = absurd (cc)
row_found (q ∷ rows) x r h = go (is_same q.entity x) refl h (row_found rows x r)
  where
    go : (b : Bool) → is_same q.entity x ≡ b → cond b (Some q) (row_of x rows) ≡ Some r → (row_of x rows ≡ Some r → (i : ℕ) × (slice_get rows i ≡ Some r) × (r.entity ≡ x)) →
        (i : ℕ) × (slice_get (q ∷ rows) i ≡ Some r) × (r.entity ≡ x)
    go true same is more = (0, is, (let one : q ≡ r = cc in ap (λ (y : TableRow). y.entity) (sym one) ∙ same_entity q.entity x same))
    go false other is more = let p = more is in (suc p.0, p.1, p.2)

-- what of it is at an index after a removal
kept_index : (rows : List TableRow) (i k : ℕ) (r : TableRow) → i < length rows → slice_get rows k ≡ Some r → (k ≡ i → ⊥) → (j : ℕ) × (slice_get (swap_removed rows i) j ≡ Some r)
kept_index rows i k r l at other = go (cases_eq (k + 1) (length rows))
  where
    before_last : (i k n : ℕ) → i < n → k + 1 ≡ n → (k ≡ i → ⊥) → i + 1 < n
    before_last i k n l last other = grind arith

    not_last : (k n : ℕ) → k < n → (k + 1 ≡ n → ⊥) → k + 1 < n
    not_last k n l other = grind arith

    within : k < length rows
    within = get_within rows k r at

    go : (k + 1 ≡ length rows) ⊎ (k + 1 ≡ length rows → ⊥) → (j : ℕ) × (slice_get (swap_removed rows i) j ≡ Some r)
    go (inl last) =
        let m = within in
        let before : i + 1 < length rows = before_last i k (length rows) l last other in
        let end : length rows - 1 ≡ k = omega arith in
        (i, get-swap_here rows i before ∙ ap (slice_get rows) end ∙ at)
    go (inr stays) = let m = within in let n : k + 1 < length rows = not_last k (length rows) m stays in (k, get-swap_other rows i k n other ∙ at)

old_index : (rows : List TableRow) (i j : ℕ) (r : TableRow) → i < length rows → slice_get (swap_removed rows i) j ≡ Some r → (k : ℕ) × (slice_get rows k ≡ Some r) × (k ≡ i → ⊥)
old_index rows i j r l at = go (cases_eq j i)
  where
    shorter : j + 1 < length rows
    shorter = let m = get_within (swap_removed rows i) j r at in let n = length-swap_removed rows i l in omega arith

    go : (j ≡ i) ⊎ (j ≡ i → ⊥) → (k : ℕ) × (slice_get rows k ≡ Some r) × (k ≡ i → ⊥)
    go (inl same) =
        let m = shorter in
        (length rows - 1, sym (get-swap_here rows i (omega arith)) ∙ ap (slice_get (swap_removed rows i)) (sym same) ∙ at, λ e. absurd (omega arith))
    go (inr other) = let m = shorter in (j, sym (get-swap_other rows i j m other) ∙ at, other)

apart_swapped : (rows : List TableRow) (i : ℕ) → AreApart (map (λ (row : TableRow). row.entity) rows) → i < length rows → AreApart (map (λ (row : TableRow). row.entity) (swap_removed rows i))
apart_swapped rows i apart l = subst AreApart (sym (map-swap_removed (λ (row : TableRow). row.entity) rows i))
    (apart-swap (map (λ (row : TableRow). row.entity) rows) i apart (omega (arith, length-map rows (λ (row : TableRow). row.entity))))

-- the one that is removed isn't there
swapped_same : (rows : List TableRow) (i : ℕ) (e : Entity) → AreApart (map (λ (row : TableRow). row.entity) rows) → slice_get (map (λ (row : TableRow). row.entity) rows) i ≡ Some e → row_of e (swap_removed rows i) ≡ None
swapped_same rows i e apart at = go (row_of e (swap_removed rows i)) refl
  where
    go : (o : Option TableRow) → row_of e (swap_removed rows i) ≡ o → o ≡ None
    go None h = refl
    go (Some r) h =
        let p = row_found (swap_removed rows i) e r h in
        let q = old_index rows i p.0 r (row_within rows i e at) p.1 in
        absurd (q.2 (apart q.0 i e (get_map (λ (row : TableRow). row.entity) rows q.0 r q.1 ∙ ap (λ y. Some y) p.2) at))

-- the others are
swapped_other : (rows : List TableRow) (i : ℕ) (e x : Entity) → AreApart (map (λ (row : TableRow). row.entity) rows) → slice_get (map (λ (row : TableRow). row.entity) rows) i ≡ Some e → is_same e x ≡ false →
    row_of x (swap_removed rows i) ≡ row_of x rows
swapped_other rows i e x apart at other = go (row_of x rows) refl
  where
    within : i < length rows
    within = row_within rows i e at

    go : (o : Option TableRow) → row_of x rows ≡ o → row_of x (swap_removed rows i) ≡ o
    go (Some r) h =
        let p = row_found rows x r h in
        let here : p.0 ≡ i → ⊥ = λ same. elsewhere_is (sym (get_map (λ (row : TableRow). row.entity) rows p.0 r p.1) ∙ ap (slice_get (map (λ (row : TableRow). row.entity) rows)) same ∙ at) p.2 in
        let q = kept_index rows i p.0 r within p.1 here in
        row_at (swap_removed rows i) q.0 x (apart_swapped rows i apart within) (get_map (λ (row : TableRow). row.entity) (swap_removed rows i) q.0 r q.1 ∙ ap (λ y. Some y) p.2) ∙ q.1
      where
        elsewhere_is : Some r.entity ≡ Some e → r.entity ≡ x → ⊥
        elsewhere_is f g =
            let one : r.entity ≡ e = cc in
            let yes : is_same e x ≡ true = ap (λ y. is_same y x) (sym one ∙ g) ∙ same_self x in cc (yes, other)
    go None h = none (row_of x (swap_removed rows i)) refl
      where
        none : (o : Option TableRow) → row_of x (swap_removed rows i) ≡ o → o ≡ None
        none None k = refl
        none (Some r) k =
            let p = row_found (swap_removed rows i) x r k in
            let q = old_index rows i p.0 r within p.1 in
            let there = row_at rows q.0 x apart (get_map (λ (row : TableRow). row.entity) rows q.0 r q.1 ∙ ap (λ y. Some y) p.2) ∙ q.1 in
            absurd (cc (there, h))

-- a row that is added
pushed_other : (rows : List TableRow) (new : TableRow) (x : Entity) → is_same new.entity x ≡ false → row_of x (rows ++ new ∷ []) ≡ row_of x rows
pushed_other [] new x h = ap (λ b. cond b (Some new) None) h
pushed_other (r ∷ rows) new x h = ap (cond (is_same r.entity x) (Some r)) (pushed_other rows new x h)

pushed_same : (rows : List TableRow) (new : TableRow) (e : Entity) → row_of e rows ≡ None → new.entity ≡ e → row_of e (rows ++ new ∷ []) ≡ Some new
pushed_same [] new e none is = ap (λ b. cond b (Some new) None) (ap (λ y. is_same y e) is ∙ same_self e)
pushed_same (r ∷ rows) new e none is =
    let p = head_none (is_same r.entity e) r (row_of e rows) none in
    ap (λ b. cond b (Some r) (row_of e (rows ++ new ∷ []))) p.0 ∙ pushed_same rows new e p.1 is

-- a row that is changed
update_same : (e : Entity) (f : TableRow → TableRow) (rows : List TableRow) (i : ℕ) → ((r : TableRow) → (f r).entity ≡ r.entity) → IsPlace (λ (row : TableRow). is_same row.entity e) rows i →
    row_of e (update_at i f rows) ≡ option_map f (row_of e rows)
update_same e f [] i h at = refl
update_same e f (r ∷ rs) zero h at = ap (λ b. cond b (Some (f r)) (row_of e rs)) (ap (λ y. is_same y e) (h r) ∙ at) ∙ sym (ap (λ b. option_map f (cond b (Some r) (row_of e rs))) at)
update_same e f (r ∷ rs) (suc i) h at = ap (λ b. cond b (Some r) (row_of e (update_at i f rs))) at.0 ∙ update_same e f rs i h at.1 ∙ sym (ap (λ b. option_map f (cond b (Some r) (row_of e rs))) at.0)

update_other : (e x : Entity) (f : TableRow → TableRow) (rows : List TableRow) (i : ℕ) → ((r : TableRow) → (f r).entity ≡ r.entity) → IsPlace (λ (row : TableRow). is_same row.entity e) rows i → is_same e x ≡ false →
    row_of x (update_at i f rows) ≡ row_of x rows
update_other e x f [] i h at other = refl
update_other e x f (r ∷ rs) zero h at other =
    let apart : is_same r.entity x ≡ false = ap (λ y. is_same y x) (same_entity r.entity e at) ∙ other in
    ap (λ b. cond b (Some (f r)) (row_of x rs)) (ap (λ y. is_same y x) (h r) ∙ apart) ∙ sym (ap (λ b. cond b (Some r) (row_of x rs)) apart)
update_other e x f (r ∷ rs) (suc i) h at other = ap (cond (is_same r.entity x) (Some r)) (update_other e x f rs i h at.1 other)

entities_updated : (f : TableRow → TableRow) (rows : List TableRow) (i : ℕ) → ((r : TableRow) → (f r).entity ≡ r.entity) → map (λ (row : TableRow). row.entity) (update_at i f rows) ≡ map (λ (row : TableRow). row.entity) rows
entities_updated f rows i h = map-update_at_same (λ (row : TableRow). row.entity) f h i rows

-- ---- components

-- the components of a row that was made of them
pub components_new : (e : Entity) (ss : List StampedValue) → components_of (map stamped_number ss) (new_row e ss) ≡ map component_of ss
components_new e [] = refl
components_new e (s ∷ ss) = ap (λ cs. component_of s ∷ cs) (components_new e ss)

-- ---- one table among others

-- a table is replaced by one of its kinds that holds of the others what it did
held_set : (tables : List TableValue) (table : ℕ) (new : TableValue) (e : Entity) (held : Option (List Component)) → table < length tables →
    shape_of new ≡ shape_of (table_at tables table) → ((x : Entity) → is_same e x ≡ false → held_in new x ≡ held_at tables table x) → held_in new e ≡ held →
    IsHeldNow tables (set tables table new) table e held
held_set tables table new e held within shape others here = record {
  others = λ t x apart. go_others t x apart (cases_eq t table);
  here = λ t. go_here t (cases_eq t table);
  shapes = map-set_same shape_of tables table new (empty_table []) shape;
}
  where
    go_others : (t : ℕ) (x : Entity) → is_same e x ≡ false → (t ≡ table) ⊎ (t ≡ table → ⊥) → held_at (set tables table new) t x ≡ held_at tables t x
    go_others t x apart (inl same) = ap (λ i. held_at (set tables table new) i x) same
        ∙ ap (λ u. held_in u x) (get_or-set_same tables table new (empty_table []) within) ∙ others x apart ∙ ap (λ i. held_at tables i x) (sym same)
    go_others t x apart (inr other) = ap (λ u. held_in u x) (get_or-set_other tables table t new (empty_table []) other)

    go_here : (t : ℕ) → (t ≡ table) ⊎ (t ≡ table → ⊥) → held_at (set tables table new) t e ≡ cond (t == table) held (held_at tables t e)
    go_here t (inl same) = ap (λ i. held_at (set tables table new) i e) same
        ∙ ap (λ u. held_in u e) (get_or-set_same tables table new (empty_table []) within) ∙ here ∙ sym (ap (λ b. cond b held (held_at tables t e)) (eq-eqb t table same))
    go_here t (inr other) = ap (λ u. held_in u e) (get_or-set_other tables table t new (empty_table []) other)
        ∙ sym (ap (λ b. cond b held (held_at tables t e)) (ne_eqb t table other))

-- the other tables have the entities that they had
pub one_table : (tables : List TableValue) (table : ℕ) (new : TableValue) (es : List Entity) → table < length tables → map (λ (row : TableRow). row.entity) new.rows ≡ es →
    IsOneTable tables (set tables table new) table es
one_table tables table new es within is = record {
  others = λ t other. ap (λ (u : TableValue). map (λ (row : TableRow). row.entity) u.rows) (get_or-set_other tables table t new (empty_table []) other);
  here = ap (λ (u : TableValue). map (λ (row : TableRow). row.entity) u.rows) (get_or-set_same tables table new (empty_table []) within) ∙ is;
  other_rooms = λ t other. ap (λ (u : TableValue). u.room) (get_or-set_other tables table t new (empty_table []) other);
}

pub room_here : (tables : List TableValue) (table : ℕ) (new : TableValue) → table < length tables → room_at (set tables table new) table ≡ new.room
room_here tables table new within = ap (λ (u : TableValue). u.room) (get_or-set_same tables table new (empty_table []) within)

-- a table that holds an entity is there
pub held_within : (tables : List TableValue) (t : ℕ) (e : Entity) → is_some (held_at tables t e) ≡ true → t < length tables
held_within [] t e h = absurd (let none : is_some (held_in (empty_table []) e) ≡ true = h in cc)
held_within (u ∷ us) zero e h = omega arith
held_within (u ∷ us) (suc t) e h = let l = held_within us t e h in omega arith

-- the shape of a table
pub shape_at : (tables : List TableValue) (t : ℕ) → t < length tables → AreShaped tables → IsShape (kinds_at tables t) (table_at tables t).standings
shape_at [] t l h = absurd (omega arith)
shape_at (u ∷ us) zero l h = h.0
shape_at (u ∷ us) (suc t) l h = shape_at us t (omega arith) h.1

-- ---- one more table

held_more : (tables : List TableValue) (kinds : List ℕ) (t : ℕ) (x : Entity) → held_at (tables ++ empty_table kinds ∷ []) t x ≡ held_at tables t x
held_more [] kinds zero x = refl
held_more [] kinds (suc t) x = refl
held_more (u ∷ us) kinds zero x = refl
held_more (u ∷ us) kinds (suc t) x = held_more us kinds t x

entities_more : (tables : List TableValue) (kinds : List ℕ) (t : ℕ) → entities_at (tables ++ empty_table kinds ∷ []) t ≡ entities_at tables t
entities_more [] kinds zero = refl
entities_more [] kinds (suc t) = refl
entities_more (u ∷ us) kinds zero = refl
entities_more (u ∷ us) kinds (suc t) = entities_more us kinds t

rooms_more : (tables : List TableValue) (kinds : List ℕ) (t : ℕ) → room_at (tables ++ empty_table kinds ∷ []) t ≡ room_at tables t
rooms_more [] kinds zero = refl
rooms_more [] kinds (suc t) = refl
rooms_more (u ∷ us) kinds zero = refl
rooms_more (u ∷ us) kinds (suc t) = rooms_more us kinds t

kinds_more : (tables : List TableValue) (kinds : List ℕ) (t : ℕ) → t < length tables → kinds_at (tables ++ empty_table kinds ∷ []) t ≡ kinds_at tables t
kinds_more [] kinds t l = absurd (omega arith)
kinds_more (u ∷ us) kinds zero l = refl
kinds_more (u ∷ us) kinds (suc t) l = kinds_more us kinds t (omega arith)

shaped_more : (tables : List TableValue) (kinds : List ℕ) → IsShape kinds (empty_table kinds).standings → AreShaped tables → AreShaped (tables ++ empty_table kinds ∷ [])
shaped_more [] kinds s h = (s, tt)
shaped_more (u ∷ us) kinds s h = (h.0, shaped_more us kinds s h.1)

owned_new : (kinds : List ℕ) → list_all is_owned (empty_table kinds).standings ≡ true
owned_new [] = refl
owned_new (k ∷ ks) = owned_new ks

owned_more : (tables : List TableValue) (kinds : List ℕ) → AreOwned tables → AreOwned (tables ++ empty_table kinds ∷ [])
owned_more [] kinds h = (owned_new kinds, tt)
owned_more (u ∷ us) kinds h = (h.0, owned_more us kinds h.1)

unlike_more : (tables : List TableValue) (kinds : List ℕ) → AllByRecursion (λ t. t.kinds ≢ kinds) tables → AreUnlike tables → AreUnlike (tables ++ empty_table kinds ∷ [])
unlike_more [] kinds new h = (tt, tt)
unlike_more (u ∷ us) kinds new h = (each-push (λ t. u.kinds ≢ t.kinds) us (empty_table kinds) h.0 new.0, unlike_more us kinds new.1 h.1)

layout_more : (tables : List TableValue) (kinds : List ℕ) → layout_of (tables ++ empty_table kinds ∷ []) ≡ layout_of tables
layout_more [] kinds = refl
layout_more (t ∷ ts) kinds = ap₂ (cond (is_there t.rows)) (ap (λ us. archetype_of t ∷ us) (layout_more ts kinds)) (layout_more ts kinds)

longer_more : (tables : List TableValue) (kinds : List ℕ) → length tables ≤ length (tables ++ empty_table kinds ∷ [])
longer_more [] kinds = omega arith
longer_more (t ∷ ts) kinds = let l = longer_more ts kinds in omega arith

-- a table of other kinds is made
pub grown_more : (tables : List TableValue) (kinds : List ℕ) → IsShape kinds (empty_table kinds).standings → AllByRecursion (λ t. t.kinds ≢ kinds) tables → AreShaped tables → AreUnlike tables →
    IsGrown tables (tables ++ empty_table kinds ∷ [])
grown_more tables kinds s new shaped unlike = record {
  held = held_more tables kinds;
  entities = entities_more tables kinds;
  rooms = rooms_more tables kinds;
  kinds = kinds_more tables kinds;
  longer = longer_more tables kinds;
  shaped = shaped_more tables kinds s shaped;
  unlike = unlike_more tables kinds new unlike;
  owned = owned_more tables kinds;
  layout = layout_more tables kinds;
}

-- ---- what is done to the row of one entity

module _ (tables : List TableValue) (table : ℕ) (there new : TableValue) (e : Entity) (within : table < length tables) (is : there ≡ table_at tables table) where
  -- it is added
  pub held_pushed : (ss : List StampedValue) (room : ℕ) → there.kinds ≡ map stamped_number ss → row_of e there.rows ≡ None →
      new ≡ record { kinds = there.kinds; standings = there.standings; rows = there.rows ++ new_row e ss ∷ []; room = room } →
      IsHeldNow tables (set tables table new) table e (Some (map component_of ss))
  held_pushed ss room kinds absent made = held_set tables table new e (Some (map component_of ss)) within
      (ap shape_of made ∙ ap shape_of is)
      (λ x other. ap (λ u. held_in u x) made ∙ ap (option_map (components_of there.kinds)) (pushed_other there.rows (new_row e ss) x other) ∙ ap (λ u. held_in u x) is)
      (ap (λ u. held_in u e) made ∙ ap (option_map (components_of there.kinds)) (pushed_same there.rows (new_row e ss) e absent refl)
      ∙ ap (λ row. Some row) (ap (λ ks. components_of ks (new_row e ss)) kinds ∙ components_new e ss))

  module _ (row : ℕ) (apart : AreApart (map (λ (row : TableRow). row.entity) there.rows)) (at : slice_get (map (λ (row : TableRow). row.entity) there.rows) row ≡ Some e) where
    -- it is removed
    pub held_removed : (room : ℕ) → new ≡ record { kinds = there.kinds; standings = there.standings; rows = swap_removed there.rows row; room = room } → IsHeldNow tables (set tables table new) table e None
    held_removed room made = held_set tables table new e None within
        (ap shape_of made ∙ ap shape_of is)
        (λ x other. ap (λ u. held_in u x) made ∙ ap (option_map (components_of there.kinds)) (swapped_other there.rows row e x apart at other) ∙ ap (λ u. held_in u x) is)
        (ap (λ u. held_in u e) made ∙ ap (option_map (components_of there.kinds)) (swapped_same there.rows row e apart at))

    -- all of it is replaced
    pub held_renewed : (ss : List StampedValue) (room : ℕ) → there.kinds ≡ map stamped_number ss →
        new ≡ record { kinds = there.kinds; standings = there.standings; rows = update_at row (renewed_row ss) there.rows; room = room } →
        IsHeldNow tables (set tables table new) table e (Some (map component_of ss))
    held_renewed ss room kinds made = held_set tables table new e (Some (map component_of ss)) within
        (ap shape_of made ∙ ap shape_of is)
        (λ x other. ap (λ u. held_in u x) made ∙ ap (option_map (components_of there.kinds)) (update_other e x (renewed_row ss) there.rows row (λ r. refl) (row_place there.rows row e apart at) other) ∙ ap (λ u. held_in u x) is)
        (ap (λ u. held_in u e) made ∙ ap (option_map (components_of there.kinds)) (update_same e (renewed_row ss) there.rows row (λ r. refl) (row_place there.rows row e apart at)) ∙ go (row_of e there.rows) (row_at there.rows row e apart at))
      where
        go : (o : Option TableRow) → o ≡ slice_get there.rows row → option_map (components_of there.kinds) (option_map (renewed_row ss) o) ≡ Some (map component_of ss)
        go None h = absurd (let none = sym (get-map (λ (r : TableRow). r.entity) there.rows row ∙ ap (option_map (λ (r : TableRow). r.entity)) (sym h)) ∙ at in cc)
        go (Some r) h = ap (λ row. Some row) (ap (λ ks. components_of ks (renewed_row ss r)) kinds ∙ components_new r.entity ss)

-- the entities of the rows after such changes
pub entities_pushed : (rows : List TableRow) (e : Entity) (ss : List StampedValue) → map (λ (row : TableRow). row.entity) (rows ++ new_row e ss ∷ []) ≡ map (λ (row : TableRow). row.entity) rows ++ e ∷ []
entities_pushed rows e ss = map-append (λ (row : TableRow). row.entity) rows (new_row e ss ∷ [])

pub entities_swapped : (rows : List TableRow) (row : ℕ) → map (λ (row : TableRow). row.entity) (swap_removed rows row) ≡ swap_removed (map (λ (row : TableRow). row.entity) rows) row
entities_swapped rows row = map-swap_removed (λ (row : TableRow). row.entity) rows row

pub entities_renewed : (rows : List TableRow) (row : ℕ) (ss : List StampedValue) → map (λ (row : TableRow). row.entity) (update_at row (renewed_row ss) rows) ≡ map (λ (row : TableRow). row.entity) rows
entities_renewed rows row ss = entities_updated (renewed_row ss) rows row (λ r. refl)

-- ---- what is read

-- the cell of a kind of the entity at a row
pub cell_held : (t : TableValue) (row : ℕ) (e : Entity) (kind : ℕ) → AreBelow t.kinds → AreApart (map (λ (r : TableRow). r.entity) t.rows) → slice_get (map (λ (r : TableRow). r.entity) t.rows) row ≡ Some e →
    cell_at (row_or_none (held_in t e)) kind ≡ cell_in_row t row kind
cell_held t row e kind below apart at = go (row_of e t.rows) ∙ ap (option_and_then (cell_of_kind t.kinds kind)) (row_at t.rows row e apart at)
  where
    go : (o : Option TableRow) → cell_at (row_or_none (option_map (components_of t.kinds) o)) kind ≡ option_and_then (cell_of_kind t.kinds kind) o
    go None = refl
    go (Some r) = cells_are_theirs t.kinds r kind below

-- all components
pub components_held : (t : TableValue) (row : ℕ) (e : Entity) (ss : List StampedValue) → AreApart (map (λ (r : TableRow). r.entity) t.rows) → slice_get (map (λ (r : TableRow). r.entity) t.rows) row ≡ Some e →
    option_map (λ (r : TableRow). r.cells) (slice_get t.rows row) ≡ Some (map (λ s. Some (stamped_cell s)) ss) → map stamped_number ss ≡ t.kinds → held_in t e ≡ Some (map component_of ss)
components_held t row e ss apart at cells kinds = ap (option_map (components_of t.kinds)) (row_at t.rows row e apart at) ∙ go (slice_get t.rows row) cells
  where
    go : (o : Option TableRow) → option_map (λ (r : TableRow). r.cells) o ≡ Some (map (λ s. Some (stamped_cell s)) ss) → option_map (components_of t.kinds) o ≡ Some (map component_of ss)
    go None h = absurd (cc)
    go (Some r) h =
        let is : r.cells ≡ map (λ s. Some (stamped_cell s)) ss = cc in
        ap (λ row. Some row) (ap (components_in t.kinds) is ∙ ap (λ ks. components_of ks (new_row e ss)) (sym kinds) ∙ components_new e ss)

-- what holds of a result by two things that hold of it
pub on_both : {A E P Q R : Type 0} (r : Result A E) → (P → Q → R) → OnOk r P → OnOk r Q → OnOk r R
on_both (Ok a) f p q = f p q
on_both (Err e) f p q = tt
