-- What a table's calls leave, from the row and the place of the column.
use Rattle.column_store.proofs.Common.{◌≡◌, ℕ, zero, suc, ◌<◌, ◌==◌, Bool, List, [], ◌∷◌, ◌++◌, length, get_or, map, option_map, option_and_then, Option, Some, None, refl, sym, ap, ap₂, ◌∙◌, arith, AllByRecursion, slice_get, length-map, map-map, update_at, Cell, Entity, ColumnCells, IsPlace, IsNowhere, swap_removed, Standing, ColumnSlotValue, TableRow, TableValue, is_home, cell_of_kind, filled_rows, cell_in_row, standing_of, kind_cells, moved_to, owned, homed, IsAlike, Owned, standing_in, kind_in, standing_at, owned_slot, seen_column, seen_slot, cell_at, tail_in, swap_out_in, push_all, replace_all, rows_of, table_of, IsOfLength, AreAlike, get-there}
use Rattle.column_store.proofs.Lists.{map-update_at, map-update_at_same, get-map}
use Rattle.column_store.proofs.Rows.{at_kind-place, at_kind-nowhere, update_kind-place}
use Rattle.column_store.proofs.ColumnRows.{cell_of_column, filled, get_or-rows_of, length-rows_of, rows_of-columns, cells-rows_of, rows_of-home, rows_of-push, rows_of-swap, rows_of-replace}

pub place-within : {A : Type 0} (test : A → Bool) (xs : List A) (i : ℕ) → IsPlace test xs i → i < length xs
place-within test [] i p = absurd p
place-within test (x ∷ xs) zero p = omega arith
place-within test (x ∷ xs) (suc i) p = let l = place-within test xs i p.1 in omega arith

pub length-of_kinds : (ns : List ℕ) (ps : List ColumnSlotValue) → map kind_in ps ≡ ns → length ns ≡ length ps
length-of_kinds ns ps h = sym (ap length h) ∙ length-map ps kind_in

pub made : (ns : List ℕ) (ss ts : List Standing) (rs qs : List TableRow) → ss ≡ ts → rs ≡ qs →
    (let t : TableValue = record { kinds = ns; standings = ss; rows = rs; room = 0 } in t) ≡ record { kinds = ns; standings = ts; rows = qs; room = 0 }
made ns ss ts rs qs h k = ap₂ (λ s r. let t : TableValue = record { kinds = ns; standings = s; rows = r; room = 0 } in t) h k

same_row : (e : Entity) (cs ds : List (Option Cell)) → cs ≡ ds → (let r : TableRow = record { entity = e; cells = cs } in r) ≡ record { entity = e; cells = ds }
same_row e cs ds h = ap (λ c. let r : TableRow = record { entity = e; cells = c } in r) h

-- ---- a cell

pub get-rows_of : (es : List Entity) (ps : List ColumnSlotValue) (i : ℕ) (e : Entity) → i < length es → slice_get (rows_of es ps) i ≡ Some (record { entity = get_or es i e; cells = map (cell_at i) ps })
get-rows_of es ps i e l =
    let d : TableRow = record { entity = e; cells = [] } in
    let many = length-rows_of es ps in
    get-there (rows_of es ps) i d (omega arith) ∙ ap (λ r. Some r) (get_or-rows_of es ps i e d l)

module _ (ns : List ℕ) (es : List Entity) (ps : List ColumnSlotValue) (k : ℕ) where
  pub cell_in-no_kind : (i : ℕ) → IsNowhere (λ n. n == k) ns → cell_in_row (table_of ns es ps) i k ≡ None
  cell_in-no_kind i h = go (slice_get (rows_of es ps) i)
    where
      go : (o : Option TableRow) → option_and_then (cell_of_kind ns k) o ≡ None
      go None = refl
      go (Some r) = ap (option_and_then (λ cell. cell)) (at_kind-nowhere k ns r.cells h)

-- ---- a column that is lent or comes home

module _ (ns : List ℕ) (es : List Entity) (ps : List ColumnSlotValue) (k j : ℕ) where
  pub table-move : (s : Standing) → IsPlace (λ n. n == k) ns j → table_of ns es (update_at j (standing_at s) ps) ≡ moved_to s (table_of ns es ps) k
  table-move s of = made ns _ _ _ _
      (map-update_at standing_in (standing_at s) (λ _. s) (λ p. refl) j ps ∙ sym (update_kind-place k (λ _. s) ns (map standing_in ps) j of))
      (rows_of-columns es ps (update_at j (standing_at s) ps) (map-update_at_same seen_column (standing_at s) (λ p. refl) j ps))

  pub standing-place : (p : ColumnSlotValue) → IsPlace (λ n. n == k) ns j → length ns ≡ length ps → slice_get ps j ≡ Some p → standing_of (table_of ns es ps) k ≡ Some (standing_in p)
  standing-place p of l h = at_kind-place k ns (map standing_in ps) j of (l ∙ sym (length-map ps standing_in)) ∙ get-map standing_in ps j ∙ ap (option_map standing_in) h

  pub standing-nowhere : IsNowhere (λ n. n == k) ns → standing_of (table_of ns es ps) k ≡ None
  standing-nowhere h = at_kind-nowhere k ns (map standing_in ps) h

filled_rows-place : (ns : List ℕ) (k j : ℕ) (cells : List Cell) (rows : List TableRow) → IsPlace (λ n. n == k) ns j → filled_rows ns k cells rows ≡ filled j cells rows
filled_rows-place ns k j cells [] of = refl
filled_rows-place ns k j [] (r ∷ rows) of = refl
filled_rows-place ns k j (c ∷ cells) (r ∷ rows) of =
    ap₂ ◌∷◌ (same_row r.entity _ _ (update_kind-place k (λ _. Some c) ns r.cells j of)) (filled_rows-place ns k j cells rows of)

pub table-home : (ns : List ℕ) (es : List Entity) (ps : List ColumnSlotValue) (j : ℕ) (c : ColumnCells) → IsPlace (λ n. n == c.kind) ns j → length c.cells ≡ length es →
    table_of ns es (update_at j (λ _. owned_slot c) ps) ≡ homed (table_of ns es ps) c
table-home ns es ps j c of l = made ns _ _ _ _
    (map-update_at standing_in (λ _. owned_slot c) (λ _. Owned) (λ p. refl) j ps ∙ sym (update_kind-place c.kind (λ _. Owned) ns (map standing_in ps) j of))
    (rows_of-home es ps j c.kind c.room c.cells l ∙ sym (filled_rows-place ns c.kind j c.cells (rows_of es ps) of))

cells_by_column : (ns : List ℕ) (es : List Entity) (ps : List ColumnSlotValue) (k j : ℕ) → IsPlace (λ n. n == k) ns j → length ns ≡ length ps →
    map (cell_of_kind ns k) (rows_of es ps) ≡ map (cell_of_column j) (rows_of es ps)
cells_by_column ns [] ps k j of l = refl
cells_by_column ns (e ∷ es) ps k j of l = ap₂ ◌∷◌
    (ap (option_and_then (λ cell. cell)) (at_kind-place k ns (map (cell_at 0) ps) j of (l ∙ sym (length-map ps (cell_at 0)))))
    (cells_by_column ns es (map tail_in ps) k j of (l ∙ sym (length-map ps tail_in)))

-- the cells of a column that is at home
pub kind_cells-place : (ns : List ℕ) (es : List Entity) (ps : List ColumnSlotValue) (k j : ℕ) (p : ColumnSlotValue) → IsPlace (λ n. n == k) ns j → length ns ≡ length ps →
    slice_get ps j ≡ Some p → length p.column.cells ≡ length es → kind_cells (table_of ns es ps) k ≡ map (λ cell. Some cell) p.column.cells
kind_cells-place ns es ps k j p of l h n = cells_by_column ns es ps k j of l ∙ cells-rows_of es ps j p.column.kind p.column.room p.standing p.column.cells h n

-- ---- columns that differ in which are read elsewhere too

homes_seen : (ps : List ColumnSlotValue) → map is_home (map standing_in ps) ≡ map (λ (p : ColumnSlotValue). is_home p.standing) ps
homes_seen [] = refl
homes_seen (p ∷ ps) = ap (λ bs. is_home p.standing ∷ bs) (homes_seen ps)

pub table-alike : (ns : List ℕ) (es : List Entity) (ps qs : List ColumnSlotValue) → AreAlike ps qs → IsAlike (table_of ns es ps) (table_of ns es qs)
table-alike ns es ps qs h = record { kinds = refl; homes = homes_seen qs ∙ h.homes ∙ sym (homes_seen ps); rows = rows_of-columns es ps qs h.columns }

owned_standings : (ps qs : List ColumnSlotValue) → map seen_slot qs ≡ map (standing_at Owned) (map seen_slot ps) → map standing_in qs ≡ map (λ _. Owned) (map standing_in ps)
owned_standings [] [] h = refl
owned_standings [] (q ∷ qs) h = absurd (cc)
owned_standings (p ∷ ps) [] h = absurd (cc)
owned_standings (p ∷ ps) (q ∷ qs) h =
    let first : seen_slot q ≡ standing_at Owned (seen_slot p) = cc in
    let rest : map seen_slot qs ≡ map (standing_at Owned) (map seen_slot ps) = cc in
    ap₂ ◌∷◌ (ap standing_in first) (owned_standings ps qs rest)

pub owned_columns : (ps qs : List ColumnSlotValue) → map seen_slot qs ≡ map (standing_at Owned) (map seen_slot ps) → map seen_column qs ≡ map seen_column ps
owned_columns [] [] h = refl
owned_columns [] (q ∷ qs) h = absurd (cc)
owned_columns (p ∷ ps) [] h = absurd (cc)
owned_columns (p ∷ ps) (q ∷ qs) h =
    let first : seen_slot q ≡ standing_at Owned (seen_slot p) = cc in
    let rest : map seen_slot qs ≡ map (standing_at Owned) (map seen_slot ps) = cc in
    ap₂ ◌∷◌ (ap (λ (x : ColumnSlotValue). x.column) first) (owned_columns ps qs rest)

pub table-owned : (ns : List ℕ) (es : List Entity) (ps qs : List ColumnSlotValue) → map seen_slot qs ≡ map (standing_at Owned) (map seen_slot ps) → table_of ns es qs ≡ owned (table_of ns es ps)
table-owned ns es ps qs h = made ns _ _ _ _ (owned_standings ps qs h) (rows_of-columns es ps qs (owned_columns ps qs h))

-- slots that are seen alike make one table
pub table-seen : (ns : List ℕ) (es : List Entity) (ps qs : List ColumnSlotValue) → map seen_slot qs ≡ map seen_slot ps → table_of ns es qs ≡ table_of ns es ps
table-seen ns es ps qs h = made ns _ _ _ _ (standings ps qs h) (rows_of-columns es ps qs (columns ps qs h))
  where
    standings : (ps qs : List ColumnSlotValue) → map seen_slot qs ≡ map seen_slot ps → map standing_in qs ≡ map standing_in ps
    standings ps qs h = sym (map-map standing_in seen_slot qs) ∙ ap (map standing_in) h ∙ map-map standing_in seen_slot ps

    columns : (ps qs : List ColumnSlotValue) → map seen_slot qs ≡ map seen_slot ps → map seen_column qs ≡ map seen_column ps
    columns ps qs h = sym (map-map (λ (p : ColumnSlotValue). p.column) seen_slot qs) ∙ ap (map (λ (p : ColumnSlotValue). p.column)) h ∙ map-map (λ (p : ColumnSlotValue). p.column) seen_slot ps

pub alike_room : (t u : TableValue) (r s : ℕ) → IsAlike t u → IsAlike (record t { room = r }) (record u { room = s })
alike_room t u r s h = record { kinds = h.kinds; homes = h.homes; rows = h.rows }

-- ---- a row more or less

standings-push : (ps : List ColumnSlotValue) (cs : List Cell) → map standing_in (push_all ps cs) ≡ map standing_in ps
standings-push [] cs = refl
standings-push (p ∷ ps) [] = refl
standings-push (p ∷ ps) (c ∷ cs) = ap (λ ss. p.standing ∷ ss) (standings-push ps cs)

standings-swap : (ps : List ColumnSlotValue) (i : ℕ) → map standing_in (map (swap_out_in i) ps) ≡ map standing_in ps
standings-swap [] i = refl
standings-swap (p ∷ ps) i = ap (λ ss. p.standing ∷ ss) (standings-swap ps i)

standings-replace : (ps : List ColumnSlotValue) (cs : List Cell) (i : ℕ) → map standing_in (replace_all i ps cs) ≡ map standing_in ps
standings-replace [] cs i = refl
standings-replace (p ∷ ps) [] i = refl
standings-replace (p ∷ ps) (c ∷ cs) i = ap (λ ss. p.standing ∷ ss) (standings-replace ps cs i)

module _ (ns : List ℕ) (es : List Entity) (ps : List ColumnSlotValue) where
  pub table-push : (e : Entity) (cs : List Cell) → length ps ≡ length cs → AllByRecursion (IsOfLength (length es)) ps →
      table_of ns (es ++ e ∷ []) (push_all ps cs)
      ≡ record { kinds = ns; standings = map standing_in ps; rows = rows_of es ps ++ record { entity = e; cells = map (λ c. Some c) cs } ∷ []; room = 0 }
  table-push e cs l h = made ns _ _ _ _ (standings-push ps cs) (rows_of-push es e ps cs l h)

  pub table-swap : (i : ℕ) → AllByRecursion (IsOfLength (length es)) ps → i < length es →
      table_of ns (swap_removed es i) (map (swap_out_in i) ps)
      ≡ record { kinds = ns; standings = map standing_in ps; rows = swap_removed (rows_of es ps) i; room = 0 }
  table-swap i h l = made ns _ _ _ _ (standings-swap ps i) (rows_of-swap es ps i h l)

  pub table-renew : (i : ℕ) (cs : List Cell) → length ps ≡ length cs → AllByRecursion (IsOfLength (length es)) ps →
      table_of ns es (replace_all i ps cs)
      ≡ record { kinds = ns; standings = map standing_in ps; rows = update_at i (λ (r : TableRow). let s : TableRow = record { entity = r.entity; cells = map (λ c. Some c) cs } in s) (rows_of es ps); room = 0 }
  table-renew i cs l h = made ns _ _ _ _ (standings-replace ps cs i) (rows_of-replace es ps cs i l h)
