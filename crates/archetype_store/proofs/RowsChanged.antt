-- What rows are after one of them came, went or was replaced.
use Rattle.archetype_store.proofs.Common.{◌≡◌, ℕ, zero, suc, ◌+◌, ◌-◌, ◌<◌, ◌≤◌, Bool, true, false, cond, ◌==◌, ◌⊎◌, inl, inr, List, [], ◌∷◌, ◌++◌, length, set, map, option_map, Option, Some, None, is_some, Result, Ok, Err, OnOk, OnErr, refl, sym, ap, subst, ◌∙◌, arith, slice_get, cases_eq, eq-eqb, length-map, map-set_same, is_there, Entity, StampedValue, ColumnCells, components_of, is_same, AreApart, IsPlace, swap_removed, TableRow, TableValue, empty_table, is_home, homed, lent, EntityLocation, component_of, one_if, number_of_row, AreRowsKnown, RowsValue, rows_seen, row_number, without_row, with_row_renewed, placed_in, joined, left_from, renewed, AreKept, AreRows, CanJoin, CanRenew, IsTheirs, place_of, holder_in, AreArchetypes, HasRow, IsHolder, table_at, number_of, held_at, entities_at, entity_in_row, room_at, shape_of, AreOwned, AreUnshared, AreAllAlike, IsGrown, IsHeldNow, IsOneTable, IsTableOf}
use Rattle.column_store.specs.Table.{row_of}
use Rattle.column_store.proofs.Apart.{same_entity, get_within}
use Rattle.column_store.proofs.Kept.{apart-push, apart-swap}
use Rattle.archetype_store.specs.Rows.{with_row}
use Rattle.archetype_store.proofs.ArchetypeColumns.{entities_filled, lent_stored, stored_homed}
use Rattle.archetype_store.proofs.ColumnStandings.{owned_kept, owned_stored, alike_set, alike_stored, alike_whole}
use Rattle.archetype_store.proofs.PlacesAfterRowChange.{nowhere, somewhere}
use Rattle.archetype_store.proofs.RowNumbers.{none_nowhere, absent_row, row_there, known_kept, known_cleared, known_joined, one_kept}
use Rattle.archetype_store.proofs.RowSteps as steps
use Rattle.archetype_store.proofs.SingleRowMove.{grown_whole}
use Rattle.archetype_store.proofs.TableForRow.{grown_known}
use Rattle.archetype_store.proofs.TableRoom.{alike_entities, set_entities, set_entities_if}
use Rattle.archetype_store.proofs.TablesAfterRowChange.{row_place, held_within, held_pushed, held_removed, held_renewed, one_table, room_here, entities_pushed, entities_swapped, entities_renewed}

-- ---- the number of a row

place_number : (rows : List TableRow) (i : ℕ) (e : Entity) → IsPlace (λ (row : TableRow). is_same row.entity e) rows i → row_number e rows ≡ i
place_number [] i e h = absurd h
place_number (r ∷ rows) zero e h = ap (λ b. cond b 0 (suc (row_number e rows))) h
place_number (r ∷ rows) (suc i) e h = ap (λ b. cond b 0 (suc (row_number e rows))) h.0 ∙ ap suc (place_number rows i e h.1)

-- the row of a number is that of its entity
pub number_is : (rows : List TableRow) (i : ℕ) (e : Entity) → AreApart (map (λ (row : TableRow). row.entity) rows) → slice_get (map (λ (row : TableRow). row.entity) rows) i ≡ Some e → row_number e rows ≡ i
number_is rows i e apart at = place_number rows i e (row_place rows i e apart at)

-- an entity that is there is at its number
numbered : (rows : List TableRow) (e : Entity) → is_some (row_of e rows) ≡ true → slice_get (map (λ (row : TableRow). row.entity) rows) (row_number e rows) ≡ Some e
numbered [] e h = absurd (cc)
numbered (r ∷ rows) e h = go (is_same r.entity e) refl h (numbered rows e)
  where
    go : (b : Bool) → is_same r.entity e ≡ b → is_some (cond b (Some r) (row_of e rows)) ≡ true → (is_some (row_of e rows) ≡ true → slice_get (map (λ (row : TableRow). row.entity) rows) (row_number e rows) ≡ Some e) →
        slice_get (map (λ (row : TableRow). row.entity) (r ∷ rows)) (cond b 0 (suc (row_number e rows))) ≡ Some e
    go true same k more = ap (λ x. Some x) (same_entity r.entity e same)
    go false other k more = more k

some_row : (ks : List ℕ) (o : Option TableRow) → is_some (option_map (components_of ks) o) ≡ true → is_some o ≡ true
some_row ks None h = absurd (cc)
some_row ks (Some r) h = refl

-- ---- entities of each table

apart_one : (T T' : List TableValue) (table : ℕ) (es : List Entity) → IsOneTable T T' table es → AreApart es → ((t : ℕ) → AreApart (entities_at T t)) → (t : ℕ) → AreApart (entities_at T' t)
apart_one T T' table es one apart h t = go (cases_eq t table)
  where
    go : (t ≡ table) ⊎ (t ≡ table → ⊥) → AreApart (entities_at T' t)
    go (inl same) = subst AreApart (sym (ap (entities_at T') same ∙ one.here)) apart
    go (inr other) = subst AreApart (sym (one.others t other)) (h t)

-- ---- a row that came

module _ (v : RowsValue) (h : AreRows v) (e : Entity) (table : ℕ) (ss : List StampedValue) (can : CanJoin v e table ss) where
  absent : held_at v.tables table e ≡ None
  absent = nowhere v.tables v.places h.whole e can.none table

  pub joined_held : IsHeldNow v.tables (joined v e table ss).tables table e (Some (map component_of ss))
  joined_held = held_pushed v.tables table (table_at v.tables table) (with_row e ss (table_at v.tables table)) e can.there refl ss ((table_at v.tables table).room - 1) can.kinds (absent_row v.tables table e absent) refl

  pub joined_one : IsOneTable v.tables (joined v e table ss).tables table (entities_at v.tables table ++ e ∷ [])
  joined_one = one_table v.tables table (with_row e ss (table_at v.tables table)) (entities_at v.tables table ++ e ∷ []) can.there (entities_pushed (table_at v.tables table).rows e ss)

  both : AreArchetypes (joined v e table ss).tables (joined v e table ss).places × HasRow (rows_seen v) e (map component_of ss) (rows_seen (joined v e table ss))
  both = steps.joined v.tables (joined v e table ss).tables v.places e table ss h.whole can.within can.none can.some can.kinds joined_held

  pub joined_rows : AreRows (joined v e table ss)
  joined_rows = record {
    whole = both.0;
    apart = apart_one v.tables (joined v e table ss).tables table (entities_at v.tables table ++ e ∷ []) joined_one
        (apart-push e (entities_at v.tables table) (h.apart table) (none_nowhere (table_at v.tables table).rows e (absent_row v.tables table e absent))) h.apart;
  }

  pub joined_seen : HasRow (rows_seen v) e (map component_of ss) (rows_seen (joined v e table ss))
  joined_seen = both.1

  less_one : (n : ℕ) → n ≤ 1 + (n - 1)
  less_one n = omega arith

  at_least : (k n m : ℕ) → m ≡ n → n ≤ k + m
  at_least k n m is = omega arith

  pub joined_room : (t : ℕ) → room_at v.tables t ≤ one_if (t == table) + room_at (joined v e table ss).tables t
  joined_room t = elim (cases_eq t table) as (λ _. room_at v.tables t ≤ one_if (t == table) + room_at (joined v e table ss).tables t) [
    | inl same ↦
        subst (λ b. room_at v.tables t ≤ one_if b + room_at (joined v e table ss).tables t) (sym (eq-eqb t table same))
        (subst (λ n. room_at v.tables n ≤ 1 + room_at (joined v e table ss).tables n) (sym same)
        (subst (λ n. room_at v.tables table ≤ 1 + n) (sym (room_here v.tables table (with_row e ss (table_at v.tables table)) can.there)) (less_one (room_at v.tables table))))
    | inr other ↦ at_least (one_if (t == table)) (room_at v.tables t) (room_at (joined v e table ss).tables t) (joined_one.other_rooms t other)
  ]

pub joined_kept : (T : List TableValue) (P : List (Option EntityLocation)) (N : List ℕ) (s : Bool) (e : Entity) (table row : ℕ) (ss : List StampedValue) (new : TableValue) →
    AreKept T P N s → AreOwned T → CanJoin (record { tables = T; places = P }) e table ss → new ≡ with_row e ss (table_at T table) → row ≡ length (table_at T table).rows →
    AreKept (set T table new) (set P e.index (placed_in e table)) (set N e.index row) s
joined_kept T P N s e table row ss new kept owned can made is =
    let v : RowsValue = record { tables = T; places = P } in
    let h : AreRows v = record { whole = kept.stored.whole; apart = kept.known.apart } in
    let held = joined_held v h e table ss can in
    let at : row ≡ length (entities_at T table) = is ∙ sym (length-map (table_at T table).rows (λ (r : TableRow). r.entity)) in
    subst (λ t. AreKept (set T table t) (set P e.index (placed_in e table)) (set N e.index row) s) (sym made) (record {
      stored = owned_stored (joined v e table ss).tables (joined v e table ss).places s (joined_rows v h e table ss can).whole (owned_kept T (joined v e table ss).tables held.shapes owned);
      known = subst (λ r. AreRowsKnown (joined v e table ss).tables (set P e.index (placed_in e table)) (set N e.index r)) (sym at)
          (known_joined T P N kept.stored.whole kept.known (joined v e table ss).tables e table can.none can.within (absent v h e table ss can) (joined_one v h e table ss can));
    })

-- ---- a row that went

module _ (v : RowsValue) (h : AreRows v) (e : Entity) (theirs : IsTheirs v e) (p : EntityLocation) (at : place_of v.places e.index ≡ Some p) where
  gen : p.generation ≡ e.generation
  gen = subst (λ o. IsHolder e.generation (holder_in o)) at theirs

  there : is_some (held_at v.tables p.table e) ≡ true
  there = somewhere v.tables v.places h.whole e p at gen

  pub leaves_within : p.table < length v.tables
  leaves_within = held_within v.tables p.table e there

  pub leaves_number : entity_in_row v.tables p.table (row_number e (table_at v.tables p.table).rows) ≡ Some e
  leaves_number = numbered (table_at v.tables p.table).rows e (some_row (table_at v.tables p.table).kinds (row_of e (table_at v.tables p.table).rows) there)

  pub left_held : IsHeldNow v.tables (left_from v e (Some p)).tables p.table e None
  left_held = held_removed v.tables p.table (table_at v.tables p.table) (without_row e (table_at v.tables p.table)) e leaves_within refl (row_number e (table_at v.tables p.table).rows) (h.apart p.table) leaves_number (table_at v.tables p.table).room refl

  pub left_one : IsOneTable v.tables (left_from v e (Some p)).tables p.table (swap_removed (entities_at v.tables p.table) (row_number e (table_at v.tables p.table).rows))
  left_one = one_table v.tables p.table (without_row e (table_at v.tables p.table)) (swap_removed (entities_at v.tables p.table) (row_number e (table_at v.tables p.table).rows)) leaves_within
      (entities_swapped (table_at v.tables p.table).rows (row_number e (table_at v.tables p.table).rows))

  cleared : AreArchetypes (left_from v e (Some p)).tables (left_from v e (Some p)).places × HasRow (rows_seen v) e [] (rows_seen (left_from v e (Some p)))
  cleared = steps.cleared v.tables v.places e p h.whole theirs at (left_from v e (Some p)).tables left_held

  pub left_rows : AreRows (left_from v e (Some p))
  left_rows = record {
    whole = cleared.0;
    apart = apart_one v.tables (left_from v e (Some p)).tables p.table (swap_removed (entities_at v.tables p.table) (row_number e (table_at v.tables p.table).rows)) left_one
        (apart-swap (entities_at v.tables p.table) (row_number e (table_at v.tables p.table).rows) (h.apart p.table)
        (get_within (entities_at v.tables p.table) (row_number e (table_at v.tables p.table).rows) e leaves_number)) h.apart;
  }

  pub left_seen : HasRow (rows_seen v) e [] (rows_seen (left_from v e (Some p)))
  left_seen = cleared.1

  pub left_room : (t : ℕ) → room_at (left_from v e (Some p)).tables t ≡ room_at v.tables t
  left_room t = elim (cases_eq t p.table) as (λ _. room_at (left_from v e (Some p)).tables t ≡ room_at v.tables t) [
    | inl same ↦ ap (room_at (left_from v e (Some p)).tables) same ∙ room_here v.tables p.table (without_row e (table_at v.tables p.table)) leaves_within ∙ ap (room_at v.tables) (sym same)
    | inr other ↦ left_one.other_rooms t other
  ]

-- the number of the row of an entity
pub number_known : (T : List TableValue) (P : List (Option EntityLocation)) (N : List ℕ) (s : Bool) (e : Entity) (p : EntityLocation) → AreKept T P N s → place_of P e.index ≡ Some p → p.generation ≡ e.generation →
    row_number e (table_at T p.table).rows ≡ number_of_row N e.index
number_known T P N s e p kept at gen = number_is (table_at T p.table).rows (number_of_row N e.index) e (kept.known.apart p.table) (row_there T P N kept.stored.whole kept.known e p at gen)

pub left_kept : (T : List TableValue) (P : List (Option EntityLocation)) (N : List ℕ) (s : Bool) (e m : Entity) (p : EntityLocation) (row : ℕ) (new : TableValue) →
    AreKept T P N s → AreOwned T → IsTheirs (record { tables = T; places = P }) e → place_of P e.index ≡ Some p → row ≡ number_of_row N e.index →
    entity_in_row T p.table (length (entities_at T p.table) - 1) ≡ Some m → new ≡ without_row e (table_at T p.table) →
    AreKept (set T p.table new) (set P e.index None) (set N m.index row) s
left_kept T P N s e m p row new kept owned theirs at is last made =
    let v : RowsValue = record { tables = T; places = P } in
    let h : AreRows v = record { whole = kept.stored.whole; apart = kept.known.apart } in
    let gone = left_from v e (Some p) in
    let g : p.generation ≡ e.generation = gen v h e theirs p at in
    let one = subst (λ r. IsOneTable T gone.tables p.table (swap_removed (entities_at T p.table) r)) (number_known T P N s e p kept at g) (left_one v h e theirs p at) in
    subst (λ t. AreKept (set T p.table t) (set P e.index None) (set N m.index row) s) (sym made) (record {
      stored = owned_stored gone.tables gone.places s (left_rows v h e theirs p at).whole (owned_kept T gone.tables (left_held v h e theirs p at).shapes owned);
      known = subst (λ r. AreRowsKnown gone.tables (set P e.index None) (set N m.index r)) (sym is)
          (known_cleared T P N kept.stored.whole kept.known gone.tables e m p at g last one);
    })

-- ---- a row that was replaced

module _ (v : RowsValue) (h : AreRows v) (e : Entity) (table : ℕ) (ss : List StampedValue) (can : CanRenew v e table ss) where
  abbrev mine : EntityLocation
  mine = record { generation = e.generation; table = table }

  same : IsTheirs v e
  same = subst (λ o. IsHolder e.generation (holder_in o)) (sym can.here) refl

  pub renews_within : table < length v.tables
  renews_within = leaves_within v h e same mine can.here

  pub renewed_held : IsHeldNow v.tables (renewed v e table ss).tables table e (Some (map component_of ss))
  renewed_held = held_renewed v.tables table (table_at v.tables table) (with_row_renewed e ss (table_at v.tables table)) e renews_within refl (row_number e (table_at v.tables table).rows) (h.apart table) (leaves_number v h e same mine can.here) ss (table_at v.tables table).room can.kinds refl

  pub renewed_one : IsOneTable v.tables (renewed v e table ss).tables table (entities_at v.tables table)
  renewed_one = one_table v.tables table (with_row_renewed e ss (table_at v.tables table)) (entities_at v.tables table) renews_within (entities_renewed (table_at v.tables table).rows (row_number e (table_at v.tables table).rows) ss)

  other_components : AreArchetypes (renewed v e table ss).tables v.places × HasRow (rows_seen v) e (map component_of ss) (rows_seen (renewed v e table ss))
  other_components = steps.renewed v.tables v.places e mine h.whole same can.here (renewed v e table ss).tables ss can.some can.kinds renewed_held

  pub renewed_rows : AreRows (renewed v e table ss)
  renewed_rows = record { whole = other_components.0; apart = apart_one v.tables (renewed v e table ss).tables table (entities_at v.tables table) renewed_one (h.apart table) h.apart }

  pub renewed_seen : HasRow (rows_seen v) e (map component_of ss) (rows_seen (renewed v e table ss))
  renewed_seen = other_components.1

  pub renewed_room : (t : ℕ) → room_at (renewed v e table ss).tables t ≡ room_at v.tables t
  renewed_room t = elim (cases_eq t table) as (λ _. room_at (renewed v e table ss).tables t ≡ room_at v.tables t) [
    | inl here ↦ ap (room_at (renewed v e table ss).tables) here ∙ room_here v.tables table (with_row_renewed e ss (table_at v.tables table)) renews_within ∙ ap (room_at v.tables) (sym here)
    | inr other ↦ renewed_one.other_rooms t other
  ]

pub renewed_kept : (T : List TableValue) (P : List (Option EntityLocation)) (N : List ℕ) (s : Bool) (e : Entity) (table : ℕ) (ss : List StampedValue) (new : TableValue) →
    AreKept T P N s → AreOwned T → CanRenew (record { tables = T; places = P }) e table ss → new ≡ with_row_renewed e ss (table_at T table) → AreKept (set T table new) P N s
renewed_kept T P N s e table ss new kept owned can made =
    let v : RowsValue = record { tables = T; places = P } in
    let h : AreRows v = record { whole = kept.stored.whole; apart = kept.known.apart } in
    let other = renewed v e table ss in
    subst (λ t. AreKept (set T table t) P N s) (sym made) (record {
      stored = owned_stored other.tables P s (renewed_rows v h e table ss can).whole (owned_kept T other.tables (renewed_held v h e table ss can).shapes owned);
      known = known_kept T other.tables P N (one_kept T other.tables table (renewed_one v h e table ss can)) kept.known;
    })

-- ---- a table in whose place another one of its kinds and rows is

-- one that has other room
pub roomed_kept : (T : List TableValue) (P : List (Option EntityLocation)) (N : List ℕ) (s : Bool) (table : ℕ) (new : TableValue) → AreKept T P N s → AreOwned T → shape_of new ≡ shape_of (table_at T table) →
    new.rows ≡ (table_at T table).rows → AreKept (set T table new) P N s
roomed_kept T P N s table new kept owned shape rows =
    let alike = alike_set T table new (record { kinds = ap (λ (t : TableValue). t.kinds) shape; homes = ap (λ (t : TableValue). map is_home t.standings) shape; rows = rows }) in
    record {
      stored = owned_stored (set T table new) P s (alike_whole T (set T table new) P s s alike kept.stored.whole) (owned_kept T (set T table new) (map-set_same shape_of T table new (empty_table []) shape) owned);
      known = known_kept T (set T table new) P N (alike_entities T (set T table new) alike) kept.known;
    }

-- or may have
pub roomed_if : {A E : Type 0} (r : Result A E) (old new : TableValue) (room : ℕ) → OnOk r (new ≡ record old { room = room }) → OnErr r (new ≡ old) → (shape_of new ≡ shape_of old) × (new.rows ≡ old.rows)
roomed_if (Ok a) old new room ok err = (ap shape_of ok, ap (λ (t : TableValue). t.rows) ok)
roomed_if (Err e) old new room ok err = (ap shape_of err, ap (λ (t : TableValue). t.rows) err)

-- one whose columns stand otherwise
pub alike_kept : (T U : List TableValue) (P : List (Option EntityLocation)) (N : List ℕ) (s s' : Bool) → AreAllAlike T U → (s' ≡ false → AreUnshared U) → AreKept T P N s → AreKept U P N s'
alike_kept T U P N s s' alike unshared kept = record {
  stored = alike_stored T U P s s' alike kept.stored.whole kept.stored.empty unshared;
  known = known_kept T U P N (alike_entities T U alike) kept.known;
}

-- a table more
pub grown_kept : (T U : List TableValue) (P : List (Option EntityLocation)) (N : List ℕ) (s : Bool) → IsGrown T U → AreOwned T → AreKept T P N s → AreKept U P N s
grown_kept T U P N s grown owned kept = record {
  stored = owned_stored U P s (grown_whole T U P grown kept.stored.whole) (grown.owned owned);
  known = grown_known T U P N grown kept.known;
}

module _ (T : List TableValue) (P : List (Option EntityLocation)) (N : List ℕ) (s : Bool) (table : ℕ) where
  at_table : table < length T → is_there (table_at T table).rows ≡ true → IsTableOf T (number_of T table) table
  at_table within peopled = record { within = within; peopled = peopled; number = refl }

  -- a column came home
  pub homed_kept : (column : ColumnCells) (new : TableValue) → table < length T → is_there (table_at T table).rows ≡ true → new ≡ homed (table_at T table) column → AreKept T P N s → AreKept (set T table new) P N s
  homed_kept column new within peopled made kept = subst (λ t. AreKept (set T table t) P N s) (sym made) (record {
    stored = stored_homed T P (number_of T table) table (at_table within peopled) column kept.stored.whole s kept.stored;
    known = known_kept T (set T table (homed (table_at T table) column)) P N
        (set_entities T table (homed (table_at T table) column) within (entities_filled (table_at T table).kinds column.kind column.cells (table_at T table).rows)) kept.known;
  })

-- or left
pub lent_kept : {A E : Type 0} (r : Result A E) (T T' : List TableValue) (P : List (Option EntityLocation)) (N : List ℕ) (s : Bool) (table k : ℕ) → table < length T → is_there (table_at T table).rows ≡ true →
    OnOk r (T' ≡ set T table (lent (table_at T table) k)) → OnErr r (T' ≡ T) → AreKept T P N s → AreKept T' P N s
lent_kept r T T' P N s table k within peopled away err kept = record {
  stored = lent_stored r T T' P s (number_of T table) table k (at_table T P N s table within peopled) kept.stored away err;
  known = known_kept T T' P N (set_entities_if r T T' table (lent (table_at T table) k) within refl away err) kept.known;
}
