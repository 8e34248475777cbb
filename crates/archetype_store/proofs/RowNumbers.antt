-- The numbers of rows, as rows come, go and stay.
use Rattle.archetype_store.proofs.Common.{◌≡◌, ℕ, zero, suc, ◌+◌, ◌-◌, ◌<◌, Bool, true, false, cond, ◌==◌, ◌⊎◌, inl, inr, List, [], ◌∷◌, ◌++◌, length, set, map, option_map, Option, Some, None, is_some, refl, sym, ap, ap₂, subst, ◌∙◌, arith, slice_get, AllByRecursion, cases_eq, and_parts, get_or-set_same, get_or-set_other, length-set, Entity, is_there, is_same, AreApart, IsNowhere, components_of, swap_removed, TableRow, TableValue, EntityLocation, archetype_of, layout_of, place_of, is_place, AreArchetypes, number_of_row, AreRowsKnown, table_at, held_at, entities_at, entity_in_row, IsOneTable, eqb-true}
use Rattle.column_store.specs.Table.{row_of}
use Rattle.column_store.proofs.Apart.{get_within}
use Rattle.column_store.proofs.Edited.{head_none}
use Rattle.column_store.proofs.Kept.{apart-push, apart-swap}
use Rattle.column_store.proofs.Lists.{get-map}
use Rattle.column_store.proofs.Swapped.{get-swap_here, get-swap_other}
use Rattle.archetype_store.proofs.TablesAfterRowChange.{row_at}

-- ---- places

abbrev index_or : Option Entity → ℕ
index_or None = 0
index_or (Some y) = y.index

abbrev gen_or : Option EntityLocation → ℕ
gen_or None = 0
gen_or (Some y) = y.generation

abbrev table_or : Option EntityLocation → ℕ
table_or None = 0
table_or (Some y) = y.table

some_of_none : (p : EntityLocation) → None ≡ Some p → ⊥
some_of_none p h = cc

-- an index with a place is there
pub placed_within : (P : List (Option EntityLocation)) (i : ℕ) (p : EntityLocation) → place_of P i ≡ Some p → i < length P
placed_within [] i p h = absurd (some_of_none p h)
placed_within (o ∷ P) zero p h = omega arith
placed_within (o ∷ P) (suc i) p h = let l = placed_within P i p h in omega arith

pub place_told : (o : Option EntityLocation) (g t : ℕ) → is_place o g t ≡ true → (p : EntityLocation) × (o ≡ Some p) × (p.generation ≡ g) × (p.table ≡ t)
place_told None g t k = absurd (cc)
place_told (Some p) g t k = let b = and_parts (p.generation == g) (p.table == t) k in (p, refl, eqb-true p.generation g b.0, eqb-true p.table t b.1)

-- ---- the end of a list

get_end : {A : Type 0} (xs : List A) (y : A) → slice_get (xs ++ y ∷ []) (length xs) ≡ Some y
get_end [] y = refl
get_end (x ∷ xs) y = get_end xs y

get_before : {A : Type 0} (xs : List A) (y : A) (i : ℕ) → i < length xs → slice_get (xs ++ y ∷ []) i ≡ slice_get xs i
get_before [] y i l = absurd (omega arith)
get_before (x ∷ xs) y zero l = refl
get_before (x ∷ xs) y (suc i) l = get_before xs y i (omega arith)

pub none_nowhere : (rows : List TableRow) (e : Entity) → row_of e rows ≡ None → IsNowhere (λ x. is_same x e) (map (λ (row : TableRow). row.entity) rows)
none_nowhere [] e h = tt
none_nowhere (r ∷ rows) e h = let p = head_none (is_same r.entity e) r (row_of e rows) h in (p.0, none_nowhere rows e p.1)

held_none : (t : TableValue) (o : Option TableRow) → option_map (components_of t.kinds) o ≡ None → o ≡ None
held_none t None h = refl
held_none t (Some r) h = absurd (cc)

pub absent_row : (T : List TableValue) (t : ℕ) (e : Entity) → held_at T t e ≡ None → row_of e (table_at T t).rows ≡ None
absent_row T t e h = held_none (table_at T t) (row_of e (table_at T t).rows) h

pub same_pair : (x y : Entity) → x.index ≡ y.index → x.generation ≡ y.generation → x ≡ y
same_pair x y i g = ap₂ (λ a b. let z : Entity = record { index = a; generation = b } in z) i g

-- ---- rows that stay

-- the same entities in each table
pub known_kept : (T T' : List TableValue) (P : List (Option EntityLocation)) (N : List ℕ) → ((t : ℕ) → entities_at T' t ≡ entities_at T t) → AreRowsKnown T P N → AreRowsKnown T' P N
known_kept T T' P N same h = record {
  there = λ i p at. ap (λ es. slice_get es (number_of_row N i)) (same p.table) ∙ h.there i p at;
  apart = λ t. subst AreApart (sym (same t)) (h.apart t);
  as_many = h.as_many;
}

pub one_kept : (T T' : List TableValue) (table : ℕ) → IsOneTable T T' table (entities_at T table) → (t : ℕ) → entities_at T' t ≡ entities_at T t
one_kept T T' table h t = go (cases_eq t table)
  where
    go : (t ≡ table) ⊎ (t ≡ table → ⊥) → entities_at T' t ≡ entities_at T t
    go (inl same) = ap (entities_at T') same ∙ h.here ∙ ap (entities_at T) (sym same)
    go (inr other) = h.others t other

module _ (T : List TableValue) (P : List (Option EntityLocation)) (N : List ℕ) (whole : AreArchetypes T P) (known : AreRowsKnown T P N) where
  some_row : (t : TableValue) (o : Option TableRow) (x : Entity) → option_map (λ (row : TableRow). row.entity) o ≡ Some x → is_some (option_map (components_of t.kinds) o) ≡ true
  some_row t None x h = absurd (cc)
  some_row t (Some r) x h = refl

  -- who has a row is held there
  pub held_in_row : (t r : ℕ) (x : Entity) → entity_in_row T t r ≡ Some x → is_some (held_at T t x) ≡ true
  held_in_row t r x at =
      let rows = (table_at T t).rows in
      ap (λ o. is_some (option_map (components_of (table_at T t).kinds) o)) (row_at rows r x (known.apart t) at)
      ∙ some_row (table_at T t) (slice_get rows r) x (sym (get-map (λ (row : TableRow). row.entity) rows r) ∙ at)

  -- and has its place there
  pub place_in_row : (t r : ℕ) (x : Entity) → entity_in_row T t r ≡ Some x → (p : EntityLocation) × (place_of P x.index ≡ Some p) × (p.generation ≡ x.generation) × (p.table ≡ t)
  place_in_row t r x at = place_told (place_of P x.index) x.generation t (sym (whole.agree t x) ∙ held_in_row t r x at)

  -- an entity with a place has its row there
  pub row_there : (e : Entity) (p : EntityLocation) → place_of P e.index ≡ Some p → p.generation ≡ e.generation → entity_in_row T p.table (number_of_row N e.index) ≡ Some e
  row_there e p at gen = known.there e.index p at ∙ ap (λ g. let o : Option Entity = Some (record { index = e.index; generation = g }) in o) gen

  pub number_within : (i : ℕ) (p : EntityLocation) → place_of P i ≡ Some p → i < length N
  number_within i p at = let l = placed_within P i p at in let m = known.as_many in omega arith

  -- ---- a row that goes

  module _ (T' : List TableValue) (e m : Entity) (p : EntityLocation) (at : place_of P e.index ≡ Some p) (gen : p.generation ≡ e.generation)
      (last : entity_in_row T p.table (length (entities_at T p.table) - 1) ≡ Some m)
      (one : IsOneTable T T' p.table (swap_removed (entities_at T p.table) (number_of_row N e.index))) where
    here : slice_get (entities_at T p.table) (number_of_row N e.index) ≡ Some e
    here = row_there e p at gen

    before_last : (i n : ℕ) → i < n → (i ≡ n - 1 → ⊥) → i + 1 < n
    before_last i n l other = grind arith

    moved_place : (q : EntityLocation) → place_of P m.index ≡ Some q → (q.generation ≡ m.generation) × (q.table ≡ p.table)
    moved_place q is =
        let told = place_in_row p.table (length (entities_at T p.table) - 1) m last in
        let same : told.0 ≡ q = (let s : Some told.0 ≡ Some q = sym told.1 ∙ is in cc) in
        (ap (λ (x : EntityLocation). x.generation) (sym same) ∙ told.2, ap (λ (x : EntityLocation). x.table) (sym same) ∙ told.3)

    moved_there : (j : ℕ) (q : EntityLocation) → place_of P j ≡ Some q → (j ≡ e.index → ⊥) → j ≡ m.index →
        entity_in_row T' q.table (number_of_row N e.index) ≡ Some (record { index = j; generation = q.generation })
    moved_there j q is other same =
        let told = moved_place q (ap (place_of P) (sym same) ∙ is) in
        let within = get_within (entities_at T p.table) (number_of_row N e.index) e here in
        let apart : number_of_row N e.index ≡ length (entities_at T p.table) - 1 → ⊥ = λ end.
        (let one : Some e ≡ Some m = sym here ∙ ap (slice_get (entities_at T p.table)) end ∙ last in let two : e ≡ m = cc in other (same ∙ ap (λ (x : Entity). x.index) (sym two))) in
        let less = before_last (number_of_row N e.index) (length (entities_at T p.table)) within apart in
        ap (λ t. entity_in_row T' t (number_of_row N e.index)) told.1
        ∙ ap (λ es. slice_get es (number_of_row N e.index)) one.here
        ∙ get-swap_here (entities_at T p.table) (number_of_row N e.index) less ∙ last
        ∙ ap (λ x. Some x) (same_pair m (record { index = j; generation = q.generation }) (sym same) (sym told.0))

    stays_there : (j : ℕ) (q : EntityLocation) → place_of P j ≡ Some q → (j ≡ e.index → ⊥) → (j ≡ m.index → ⊥) →
        entity_in_row T' q.table (number_of_row N j) ≡ Some (record { index = j; generation = q.generation })
    stays_there j q is other unmoved = go (cases_eq q.table p.table)
      where
        x : Entity
        x = record { index = j; generation = q.generation }

        was : entity_in_row T q.table (number_of_row N j) ≡ Some (record { index = j; generation = q.generation })
        was = known.there j q is

        go : (q.table ≡ p.table) ⊎ (q.table ≡ p.table → ⊥) → entity_in_row T' q.table (number_of_row N j) ≡ Some (record { index = j; generation = q.generation })
        go (inr elsewhere) = ap (λ es. slice_get es (number_of_row N j)) (one.others q.table elsewhere) ∙ was
        go (inl same) =
            let mine : slice_get (entities_at T p.table) (number_of_row N j) ≡ Some (record { index = j; generation = q.generation }) = ap (λ t. entity_in_row T t (number_of_row N j)) (sym same) ∙ was in
            let within = get_within (entities_at T p.table) (number_of_row N j) (record { index = j; generation = q.generation }) mine in
            let apart_row : number_of_row N j ≡ number_of_row N e.index → ⊥ = λ end.
            (let s : Some e ≡ Some (record { index = j; generation = q.generation }) = sym here ∙ ap (slice_get (entities_at T p.table)) (sym end) ∙ mine in
            let i : e.index ≡ j = ap index_or s in other (sym i)) in
            let apart_last : number_of_row N j ≡ length (entities_at T p.table) - 1 → ⊥ = λ end.
            (let s : Some m ≡ Some (record { index = j; generation = q.generation }) = sym last ∙ ap (slice_get (entities_at T p.table)) (sym end) ∙ mine in
            let i : m.index ≡ j = ap index_or s in unmoved (sym i)) in
            let less = before_last (number_of_row N j) (length (entities_at T p.table)) within apart_last in
            ap (λ t. entity_in_row T' t (number_of_row N j)) same ∙ ap (λ es. slice_get es (number_of_row N j)) one.here
            ∙ get-swap_other (entities_at T p.table) (number_of_row N e.index) (number_of_row N j) less apart_row ∙ mine

    pub known_cleared : AreRowsKnown T' (set P e.index None) (set N m.index (number_of_row N e.index))
    known_cleared = record {
      there = λ j q is. by_index j q is (cases_eq j e.index) (cases_eq j m.index);
      apart = λ t. go t (cases_eq t p.table);
      as_many = (let a = length-set P e.index None in let b = length-set N m.index (number_of_row N e.index) in let c = known.as_many in omega arith);
    }
      where
        by_index : (j : ℕ) (q : EntityLocation) → place_of (set P e.index None) j ≡ Some q → (j ≡ e.index) ⊎ (j ≡ e.index → ⊥) → (j ≡ m.index) ⊎ (j ≡ m.index → ⊥) →
            entity_in_row T' q.table (number_of_row (set N m.index (number_of_row N e.index)) j) ≡ Some (record { index = j; generation = q.generation })
        by_index j q is (inl same) moved =
            absurd (some_of_none q (sym (ap (place_of (set P e.index None)) same ∙ get_or-set_same P e.index None None (placed_within P e.index p at)) ∙ is))
        by_index j q is (inr other) (inl same) =
            let was = sym (get_or-set_other P e.index j None None other) ∙ is in
            ap (entity_in_row T' q.table) (ap (number_of_row (set N m.index (number_of_row N e.index))) same ∙ get_or-set_same N m.index (number_of_row N e.index) 0 (number_within m.index q (ap (place_of P) (sym same) ∙ was)))
            ∙ moved_there j q was other same
        by_index j q is (inr other) (inr unmoved) =
            let was = sym (get_or-set_other P e.index j None None other) ∙ is in
            ap (entity_in_row T' q.table) (get_or-set_other N m.index j (number_of_row N e.index) 0 unmoved) ∙ stays_there j q was other unmoved

        go : (t : ℕ) → (t ≡ p.table) ⊎ (t ≡ p.table → ⊥) → AreApart (entities_at T' t)
        go t (inl same) = subst AreApart (sym (ap (entities_at T') same ∙ one.here))
            (apart-swap (entities_at T p.table) (number_of_row N e.index) (known.apart p.table) (get_within (entities_at T p.table) (number_of_row N e.index) e here))
        go t (inr other) = subst AreApart (sym (one.others t other)) (known.apart t)

  -- ---- a row that comes

  pub known_joined : (T' : List TableValue) (e : Entity) (table : ℕ) → place_of P e.index ≡ None → e.index < length P → held_at T table e ≡ None → IsOneTable T T' table (entities_at T table ++ e ∷ []) →
      AreRowsKnown T' (set P e.index (Some (record { generation = e.generation; table = table }))) (set N e.index (length (entities_at T table)))
  known_joined T' e table none within absent one = record {
    there = λ j q is. by_index j q is (cases_eq j e.index);
    apart = λ t. go t (cases_eq t table);
    as_many = (let a = length-set P e.index mine in let b = length-set N e.index (length (entities_at T table)) in let c = known.as_many in omega arith);
  }
    where
      mine : Option EntityLocation
      mine = Some (record { generation = e.generation; table = table })

      known_place : (q : EntityLocation) → Some (record { generation = e.generation; table = table }) ≡ Some q → (q.generation ≡ e.generation) × (q.table ≡ table)
      known_place q is = (sym (ap gen_or is), sym (ap table_or is))

      by_index : (j : ℕ) (q : EntityLocation) → place_of (set P e.index (Some (record { generation = e.generation; table = table }))) j ≡ Some q → (j ≡ e.index) ⊎ (j ≡ e.index → ⊥) →
          entity_in_row T' q.table (number_of_row (set N e.index (length (entities_at T table))) j) ≡ Some (record { index = j; generation = q.generation })
      by_index j q is (inl same) =
          let told = known_place q (sym (ap (place_of (set P e.index (Some (record { generation = e.generation; table = table })))) same
          ∙ get_or-set_same P e.index (Some (record { generation = e.generation; table = table })) None within) ∙ is) in
          let many = known.as_many in
          ap (entity_in_row T' q.table) (ap (number_of_row (set N e.index (length (entities_at T table)))) same ∙ get_or-set_same N e.index (length (entities_at T table)) 0 (omega arith))
          ∙ ap (λ t. entity_in_row T' t (length (entities_at T table))) told.1 ∙ ap (λ es. slice_get es (length (entities_at T table))) one.here
          ∙ get_end (entities_at T table) e ∙ ap (λ x. Some x) (same_pair e (record { index = j; generation = q.generation }) (sym same) (sym told.0))
      by_index j q is (inr other) =
          let was = known.there j q (sym (get_or-set_other P e.index j (Some (record { generation = e.generation; table = table })) None other) ∙ is) in
          ap (entity_in_row T' q.table) (get_or-set_other N e.index j (length (entities_at T table)) 0 other) ∙ stays q was (cases_eq q.table table)
        where
          stays : (q : EntityLocation) → entity_in_row T q.table (number_of_row N j) ≡ Some (record { index = j; generation = q.generation }) → (q.table ≡ table) ⊎ (q.table ≡ table → ⊥) →
              entity_in_row T' q.table (number_of_row N j) ≡ Some (record { index = j; generation = q.generation })
          stays q was (inl same) =
              let there = ap (λ t. entity_in_row T t (number_of_row N j)) (sym same) ∙ was in
              ap (λ t. entity_in_row T' t (number_of_row N j)) same ∙ ap (λ es. slice_get es (number_of_row N j)) one.here
              ∙ get_before (entities_at T table) e (number_of_row N j) (get_within (entities_at T table) (number_of_row N j) (record { index = j; generation = q.generation }) there) ∙ there
          stays q was (inr elsewhere) = ap (λ es. slice_get es (number_of_row N j)) (one.others q.table elsewhere) ∙ was

      go : (t : ℕ) → (t ≡ table) ⊎ (t ≡ table → ⊥) → AreApart (entities_at T' t)
      go t (inl same) = subst AreApart (sym (ap (entities_at T') same ∙ one.here))
          (apart-push e (entities_at T table) (known.apart table) (none_nowhere (table_at T table).rows e (absent_row T table e absent)))
      go t (inr other) = subst AreApart (sym (one.others t other)) (known.apart t)

-- no entity is in an archetype twice
pub layout_apart : (T : List TableValue) → ((t : ℕ) → AreApart (entities_at T t)) → AllByRecursion (λ a. AreApart a.entities) (layout_of T)
layout_apart [] h = tt
layout_apart (t ∷ ts) h = go (is_there t.rows) (layout_apart ts (λ n. h (suc n)))
  where
    go : (b : Bool) → AllByRecursion (λ a. AreApart a.entities) (layout_of ts) → AllByRecursion (λ a. AreApart a.entities) (cond b (archetype_of t ∷ layout_of ts) (layout_of ts))
    go true rest = (h zero, rest)
    go false rest = rest
