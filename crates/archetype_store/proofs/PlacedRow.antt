-- The row of an index, in the table that its place names.
use Rattle.archetype_store.proofs.Common.{◌-◌, ap₂, set, None, swap_removed, is_owned, renewed_row, update_at, AreOwned, IsTheirs, CanRenew, left, left_from, renewed, row_number, without_row, with_row_renewed, ◌≡◌, ℕ, ◌<◌, Bool, true, List, [], length, get_or, map, Option, Some, option_map, refl, sym, ap, subst, ◌∙◌, slice_get, list_all, get_or_read, Entity, has, cell_at, kinds_of, StampedValue, stamped_number, stamped_cell, AreApart, TableRow, TableValue, empty_table, cell_in_row, is_home, is_not_away, standing_of, EntityLocation, layout_of, IsCellHome, IsRowHome, IsShape, component_of, number_of_row, RowsValue, rows_seen, AreKept, row_of, place_of, row_in, table_at, held_in, entity_in_row, row_or_none}
use Rattle.archetype_store.proofs.ColumnStandings.{owned_at}
use Rattle.archetype_store.proofs.PlacesAfterRowChange.{row_seen, somewhere}
use Rattle.archetype_store.proofs.RowEdits.{kinds-among}
use Rattle.archetype_store.proofs.RowNumbers.{number_within, place_in_row}
use Rattle.archetype_store.proofs.RowsChanged.{number_known, left_kept, renewed_kept}
use Rattle.archetype_store.proofs.RowSteps.{kinds_at_place}
use Rattle.archetype_store.proofs.RowsHome.{cell_there, row_home}
use Rattle.archetype_store.proofs.TablesAfterRowChange.{held_within, row_within, shape_at, cell_held, components_held}

module _ {T : List TableValue} {P : List (Option EntityLocation)} {N : List ℕ} {shared : Bool} (h : AreKept T P N shared) (v : RowsValue) (seen : (let w : RowsValue = record { tables = T; places = P } in w) ≡ v)
    (index : ℕ) (p : EntityLocation) (told : place_of v.places index ≡ Some p) where
  abbrev owner : Entity
  owner = record { index = index; generation = p.generation }

  placed : place_of P index ≡ Some p
  placed = ap (λ (w : RowsValue). place_of w.places index) seen ∙ told

  -- the table is there
  pub placed_within : p.table < length T
  placed_within = held_within T p.table owner (somewhere T P h.stored.whole owner p placed refl)

  module _ (there : TableValue) (got : there ≡ get_or T p.table there) where
    table_is : there ≡ table_at T p.table
    table_is = get_or_read T p.table there placed_within got (empty_table [])

    apart : AreApart (map (λ (r : TableRow). r.entity) there.rows)
    apart = subst (λ (t : TableValue). AreApart (map (λ (r : TableRow). r.entity) t.rows)) (sym table_is) (h.known.apart p.table)

    row_is : row_or_none (held_in there owner) ≡ row_of (rows_seen v).rows index
    row_is = ap (λ (t : TableValue). row_or_none (held_in t owner)) table_is ∙ sym (row_seen T P index ∙ ap (row_in T index) placed) ∙ ap (λ (w : RowsValue). row_of (rows_seen w).rows index) seen

    -- its kinds are those of the row
    pub kinds_there : (k : ℕ) → has k there.kinds ≡ kinds_of (row_of (rows_seen v).rows index) k
    kinds_there k =
        ap (λ (t : TableValue). has k t.kinds) table_is ∙ ap (has k) (sym (kinds_at_place T P h.stored.whole index p placed)) ∙ kinds-among (row_in T index (place_of P index)) k
        ∙ ap (λ r. kinds_of r k) (sym (row_seen T P index)) ∙ ap (λ (w : RowsValue). kinds_of (row_of (rows_seen w).rows index) k) seen

    -- what is at home of the row is at home there
    pub cell_home_there : (k : ℕ) → IsCellHome (layout_of v.tables) index k → is_not_away (standing_of there k) ≡ true
    cell_home_there k home =
        ap (λ (t : TableValue). is_not_away (standing_of t k)) table_is
        ∙ cell_there T p.table (number_of_row N index) owner (h.known.there index p placed) k (subst (λ (w : RowsValue). IsCellHome (layout_of w.tables) index k) (sym seen) home)

    pub row_home_there : IsRowHome (layout_of v.tables) index → list_all is_home there.standings ≡ true
    row_home_there home =
        ap (λ (t : TableValue). list_all is_home t.standings) table_is
        ∙ row_home T p.table (number_of_row N index) owner (h.known.there index p placed) (subst (λ (w : RowsValue). IsRowHome (layout_of w.tables) index) (sym seen) home)

    -- at the number of the row
    module _ (row : ℕ) (at : entity_in_row v.tables p.table row ≡ Some owner) where
      here : slice_get (map (λ (r : TableRow). r.entity) there.rows) row ≡ Some owner
      here = ap (λ (t : TableValue). slice_get (map (λ (r : TableRow). r.entity) t.rows) row) table_is ∙ ap (λ (w : RowsValue). entity_in_row w.tables p.table row) seen ∙ at

      pub row_below : row < length there.rows
      row_below = row_within there.rows row owner here

      pub cell_of_row : (k : ℕ) → cell_in_row there row k ≡ cell_at (row_of (rows_seen v).rows index) k
      cell_of_row k =
          let shape = subst (λ (t : TableValue). IsShape t.kinds t.standings) (sym table_is) (shape_at T p.table placed_within h.stored.whole.shaped) in
          sym (cell_held there row owner k shape.below apart here) ∙ ap (λ r. cell_at r k) row_is

      pub components_of_row : (ss : List StampedValue) → option_map (λ (r : TableRow). r.cells) (slice_get there.rows row) ≡ Some (map (λ s. Some (stamped_cell s)) ss) → map stamped_number ss ≡ there.kinds →
          map component_of ss ≡ row_of (rows_seen v).rows index
      components_of_row ss cells kinds = ap row_or_none (sym (components_held there row owner ss apart here cells kinds)) ∙ row_is

      -- it is the number that is kept
      pub number_here : row ≡ number_of_row N index
      number_here = h.known.apart p.table row (number_of_row N index) owner (ap (λ (w : RowsValue). entity_in_row w.tables p.table row) seen ∙ at) (h.known.there index p placed)

-- ---- a row that goes, or is renewed

module _ {T : List TableValue} {P : List (Option EntityLocation)} {N : List ℕ} {shared : Bool} (h : AreKept T P N shared) (v : RowsValue) (seen : (let w : RowsValue = record { tables = T; places = P } in w) ≡ v)
    (e : Entity) (p : EntityLocation) (told : place_of v.places e.index ≡ Some p) (gen : p.generation ≡ e.generation) (owned : AreOwned v.tables)
    (there : TableValue) (got : there ≡ get_or T p.table there) where
  here_is : there ≡ table_at T p.table
  here_is = table_is h v seen e.index p told there got

  all_owned : AreOwned T
  all_owned = subst (λ (w : RowsValue). AreOwned w.tables) (sym seen) owned

  pub owned_there : list_all is_owned there.standings ≡ true
  owned_there = ap (λ (t : TableValue). list_all is_owned t.standings) here_is ∙ owned_at T p.table (placed_within h v seen e.index p told) all_owned

  -- the last row of the table is that of an entity with a number
  pub last_within : (m : Entity) → slice_get (map (λ (r : TableRow). r.entity) there.rows) (length (map (λ (r : TableRow). r.entity) there.rows) - 1) ≡ Some m → m.index < length N
  last_within m last =
      let told = place_in_row T P N h.stored.whole h.known p.table _ m (subst (λ (t : TableValue). slice_get (map (λ (r : TableRow). r.entity) t.rows) (length (map (λ (r : TableRow). r.entity) t.rows) - 1) ≡ Some m) here_is last) in
      number_within T P N h.stored.whole h.known m.index told.0 told.1

  module _ (row : ℕ) (at : entity_in_row v.tables p.table row ≡ Some (record { index = e.index; generation = p.generation })) where
    number_is : row ≡ row_number e (table_at T p.table).rows
    number_is = number_here h v seen e.index p told there got row at ∙ sym (number_known T P N shared e p h (placed h v seen e.index p told) gen)

    pub goes : IsTheirs v e → (m : Entity) → slice_get (map (λ (r : TableRow). r.entity) there.rows) (length (map (λ (r : TableRow). r.entity) there.rows) - 1) ≡ Some m →
        (new : TableValue) → new ≡ record there { rows = swap_removed there.rows row } →
        AreKept (set T p.table new) (set P e.index None) (set N m.index row) shared × ((let w : RowsValue = record { tables = set T p.table new; places = set P e.index None } in w) ≡ left v e)
    goes theirs m last new made =
        let is : new ≡ without_row e (table_at T p.table) = made ∙ ap₂ (λ (t : TableValue) r. let u : TableValue = record { kinds = t.kinds; standings = t.standings; rows = swap_removed t.rows r; room = t.room } in u) here_is number_is in
        let last_is = subst (λ (t : TableValue). slice_get (map (λ (r : TableRow). r.entity) t.rows) (length (map (λ (r : TableRow). r.entity) t.rows) - 1) ≡ Some m) here_is last in (
          left_kept T P N shared e m p row new h all_owned (subst (λ (w : RowsValue). IsTheirs w e) (sym seen) theirs) (placed h v seen e.index p told) (number_here h v seen e.index p told there got row at) last_is is,
          ap (λ (t : TableValue). let w : RowsValue = record { tables = set T p.table t; places = set P e.index None } in w) is ∙ ap (λ (w : RowsValue). left_from w e (Some p)) seen ∙ ap (left_from v e) (sym told),
        )

    pub renews : (ss : List StampedValue) → CanRenew v e p.table ss → (new : TableValue) → new ≡ record there { rows = update_at row (renewed_row ss) there.rows } →
        AreKept (set T p.table new) P N shared × ((let w : RowsValue = record { tables = set T p.table new; places = P } in w) ≡ renewed v e p.table ss)
    renews ss can new made =
        let is : new ≡ with_row_renewed e ss (table_at T p.table) = made ∙ ap₂ (λ (t : TableValue) r. let u : TableValue = record { kinds = t.kinds; standings = t.standings; rows = update_at r (renewed_row ss) t.rows; room = t.room } in u) here_is number_is in (
          renewed_kept T P N shared e p.table ss new h all_owned (subst (λ (w : RowsValue). CanRenew w e p.table ss) (sym seen) can) is,
          ap (λ (t : TableValue). let w : RowsValue = record { tables = set T p.table t; places = P } in w) is ∙ ap (λ (w : RowsValue). renewed w e p.table ss) seen,
        )
