-- Rows as columns: what a change of the columns is of the rows.
use Rattle.column_store.proofs.Common.{◌≡◌, ℕ, zero, suc, ◌+◌, ◌-◌, ◌<◌, ◌⊎◌, inl, inr, List, [], ◌∷◌, ◌++◌, length, get_or, map, option_map, option_and_then, Option, Some, refl, sym, ap, ap₂, ◌∙◌, arith, AllByRecursion, slice_get, cases_eq, length-map, same_lists, map-map, tail_of, update_at, Cell, Entity, ColumnCells, swap_removed, Standing, ColumnSlotValue, TableRow, Owned, cell_at, tail_in, seen_column, swap_out_in, push_all, replace_all, rows_of, IsOfLength}
use Rattle.column_store.proofs.Lists.{map-update_at, get-map}
use Rattle.column_store.proofs.Swapped.{length-swap_removed, get_or-swap_here, get_or-swap_other, get-swap_here, get-swap_other}

-- a row with f applied to the cell of a column
abbrev pub with_cell : ℕ → (Option Cell → Option Cell) → TableRow → TableRow
with_cell j f row = record { entity = row.entity; cells = update_at j f row.cells }

-- the cell of a column in a row
abbrev pub cell_of_column : ℕ → TableRow → Option Cell
cell_of_column j row = option_and_then (λ cell. cell) (slice_get row.cells j)

-- rows that take the cells of a column
abbrev pub filled : ℕ → List Cell → List TableRow → List TableRow
filled j cells [] = []
filled j [] (row ∷ rows) = row ∷ rows
filled j (cell ∷ cells) (row ∷ rows) = with_cell j (λ _. Some cell) row ∷ filled j cells rows

-- a slot by its parts
abbrev slot : Standing → ℕ → ℕ → List Cell → ColumnSlotValue
slot s k r cells = record { standing = s; column = record { kind = k; cells = cells; room = r } }

-- the row of an entity with these cells
abbrev row : Entity → List (Option Cell) → TableRow
row e cells = record { entity = e; cells = cells }

row_cons : (e : Entity) (cs ds : List (Option Cell)) (rs ss : List TableRow) → cs ≡ ds → rs ≡ ss → row e cs ∷ rs ≡ row e ds ∷ ss
row_cons e cs ds rs ss h k = ap₂ (λ c r. row e c ∷ r) h k

-- ---- rows by their place

cell_at-tail : (i : ℕ) (p : ColumnSlotValue) → cell_at i (tail_in p) ≡ cell_at (suc i) p
cell_at-tail i p = go p.column.cells
  where
    go : (cells : List Cell) → slice_get (tail_of cells) i ≡ slice_get cells (suc i)
    go [] = refl
    go (x ∷ xs) = refl

map_cell_at-tail : (i : ℕ) (ps : List ColumnSlotValue) → map (cell_at i) (map tail_in ps) ≡ map (cell_at (suc i)) ps
map_cell_at-tail i [] = refl
map_cell_at-tail i (p ∷ ps) = ap₂ ◌∷◌ (cell_at-tail i p) (map_cell_at-tail i ps)

-- the row at a place
pub get_or-rows_of : (es : List Entity) (ps : List ColumnSlotValue) (i : ℕ) (e : Entity) (d : TableRow) → i < length es →
    get_or (rows_of es ps) i d ≡ row (get_or es i e) (map (cell_at i) ps)
get_or-rows_of [] ps i e d l = absurd (omega arith)
get_or-rows_of (x ∷ es) ps zero e d l = refl
get_or-rows_of (x ∷ es) ps (suc i) e d l =
    get_or-rows_of es (map tail_in ps) i e d (omega arith) ∙ ap (row (get_or es i e)) (map_cell_at-tail i ps)

pub length-rows_of : (es : List Entity) (ps : List ColumnSlotValue) → length (rows_of es ps) ≡ length es
length-rows_of [] ps = refl
length-rows_of (e ∷ es) ps = ap suc (length-rows_of es (map tail_in ps))

pub entities-rows_of : (es : List Entity) (ps : List ColumnSlotValue) → map (λ (r : TableRow). r.entity) (rows_of es ps) ≡ es
entities-rows_of [] ps = refl
entities-rows_of (e ∷ es) ps = ap (λ xs. e ∷ xs) (entities-rows_of es (map tail_in ps))

-- ---- all cells of a row replaced

head_kept : (i : ℕ) (f : Cell → Cell) (cells : List Cell) → slice_get (update_at (suc i) f cells) 0 ≡ slice_get cells 0
head_kept i f [] = refl
head_kept i f (x ∷ xs) = refl

tail_kept : (f : Cell → Cell) (cells : List Cell) → tail_of (update_at 0 f cells) ≡ tail_of cells
tail_kept f [] = refl
tail_kept f (x ∷ xs) = refl

tail_updated : (i : ℕ) (f : Cell → Cell) (cells : List Cell) → tail_of (update_at (suc i) f cells) ≡ update_at i f (tail_of cells)
tail_updated i f [] = refl
tail_updated i f (x ∷ xs) = refl

renewed_heads : (n : ℕ) (ps : List ColumnSlotValue) (cs : List Cell) → length ps ≡ length cs → AllByRecursion (IsOfLength (suc n)) ps → map (cell_at 0) (replace_all 0 ps cs) ≡ map (λ c. Some c) cs
renewed_heads n [] [] l h = refl
renewed_heads n [] (c ∷ cs) l h = absurd (omega arith)
renewed_heads n (p ∷ ps) [] l h = absurd (omega arith)
renewed_heads n (p ∷ ps) (c ∷ cs) l h = ap₂ ◌∷◌ (go p.column.cells h.0) (renewed_heads n ps cs (omega arith) h.1)
  where
    go : (cells : List Cell) → length cells ≡ suc n → slice_get (update_at 0 (λ _. c) cells) 0 ≡ Some c
    go [] k = absurd (omega arith)
    go (x ∷ xs) k = refl

kept_heads : (i : ℕ) (ps : List ColumnSlotValue) (cs : List Cell) → map (cell_at 0) (replace_all (suc i) ps cs) ≡ map (cell_at 0) ps
kept_heads i [] cs = refl
kept_heads i (p ∷ ps) [] = refl
kept_heads i (p ∷ ps) (c ∷ cs) = ap₂ ◌∷◌ (head_kept i (λ _. c) p.column.cells) (kept_heads i ps cs)

renewed_tails : (ps : List ColumnSlotValue) (cs : List Cell) → map tail_in (replace_all 0 ps cs) ≡ map tail_in ps
renewed_tails [] cs = refl
renewed_tails (p ∷ ps) [] = refl
renewed_tails (p ∷ ps) (c ∷ cs) = ap₂ ◌∷◌ (ap (slot p.standing p.column.kind p.column.room) (tail_kept (λ _. c) p.column.cells)) (renewed_tails ps cs)

later_renewed : (i : ℕ) (ps : List ColumnSlotValue) (cs : List Cell) → map tail_in (replace_all (suc i) ps cs) ≡ replace_all i (map tail_in ps) cs
later_renewed i [] cs = refl
later_renewed i (p ∷ ps) [] = refl
later_renewed i (p ∷ ps) (c ∷ cs) = ap₂ ◌∷◌ (ap (slot p.standing p.column.kind p.column.room) (tail_updated i (λ _. c) p.column.cells)) (later_renewed i ps cs)

pub shorter_tails : (n : ℕ) (ps : List ColumnSlotValue) → AllByRecursion (IsOfLength (suc n)) ps → AllByRecursion (IsOfLength n) (map tail_in ps)
shorter_tails n [] h = tt
shorter_tails n (p ∷ ps) h = (go p.column.cells h.0, shorter_tails n ps h.1)
  where
    go : (cells : List Cell) → length cells ≡ suc n → length (tail_of cells) ≡ n
    go [] l = absurd (omega arith)
    go (x ∷ xs) l = omega arith

pub rows_of-replace : (es : List Entity) (ps : List ColumnSlotValue) (cs : List Cell) (i : ℕ) → length ps ≡ length cs → AllByRecursion (IsOfLength (length es)) ps →
    rows_of es (replace_all i ps cs) ≡ update_at i (λ (r : TableRow). row r.entity (map (λ c. Some c) cs)) (rows_of es ps)
rows_of-replace [] ps cs i l h = refl
rows_of-replace (e ∷ es) ps cs zero l h = row_cons e _ _ _ _ (renewed_heads (length es) ps cs l h) (ap (rows_of es) (renewed_tails ps cs))
rows_of-replace (e ∷ es) ps cs (suc i) l h = row_cons e _ _ _ _ (kept_heads i ps cs)
    (ap (rows_of es) (later_renewed i ps cs) ∙ rows_of-replace es (map tail_in ps) cs i (length-map ps tail_in ∙ l) (shorter_tails (length es) ps h))

-- ---- columns that leave or come home

-- rows depend on the columns alone, wherever they stand
pub rows_of-columns : (es : List Entity) (ps qs : List ColumnSlotValue) → map seen_column qs ≡ map seen_column ps → rows_of es qs ≡ rows_of es ps
rows_of-columns [] ps qs h = refl
rows_of-columns (e ∷ es) ps qs h = row_cons e _ _ _ _ (heads ps qs h) (rows_of-columns es (map tail_in ps) (map tail_in qs) (tails ps qs h))
  where
    heads : (ps qs : List ColumnSlotValue) → map seen_column qs ≡ map seen_column ps → map (cell_at 0) qs ≡ map (cell_at 0) ps
    heads ps qs h = sym (map-map (λ (c : ColumnCells). slice_get c.cells 0) seen_column qs)
        ∙ ap (map (λ (c : ColumnCells). slice_get c.cells 0)) h ∙ map-map (λ (c : ColumnCells). slice_get c.cells 0) seen_column ps

    tail : (ps : List ColumnSlotValue) → map seen_column (map tail_in ps) ≡ map (λ (c : ColumnCells). let d : ColumnCells = record { kind = c.kind; cells = tail_of c.cells; room = c.room } in d) (map seen_column ps)
    tail ps = map-map seen_column tail_in ps
        ∙ sym (map-map (λ (c : ColumnCells). let d : ColumnCells = record { kind = c.kind; cells = tail_of c.cells; room = c.room } in d) seen_column ps)

    tails : (ps qs : List ColumnSlotValue) → map seen_column qs ≡ map seen_column ps →
        map seen_column (map tail_in qs) ≡ map seen_column (map tail_in ps)
    tails ps qs h = tail qs ∙ ap (map (λ (c : ColumnCells). let d : ColumnCells = record { kind = c.kind; cells = tail_of c.cells; room = c.room } in d)) h ∙ sym (tail ps)

-- the cells of a column
pub cells-rows_of : (es : List Entity) (ps : List ColumnSlotValue) (j k r : ℕ) (s : Standing) (cells : List Cell) → slice_get ps j ≡ Some (slot s k r cells) → length cells ≡ length es →
    map (cell_of_column j) (rows_of es ps) ≡ map (λ c. Some c) cells
cells-rows_of [] ps j k r s [] h l = refl
cells-rows_of [] ps j k r s (c ∷ cs) h l = absurd (omega arith)
cells-rows_of (e ∷ es) ps j k r s [] h l = absurd (omega arith)
cells-rows_of (e ∷ es) ps j k r s (c ∷ cs) h l = ap₂ ◌∷◌
    (ap (option_and_then (λ cell. cell)) (get-map (cell_at 0) ps j ∙ ap (option_map (cell_at 0)) h))
    (cells-rows_of es (map tail_in ps) j k r s cs (get-map tail_in ps j ∙ ap (option_map tail_in) h) (omega arith))

pub rows_of-home : (es : List Entity) (ps : List ColumnSlotValue) (j k r : ℕ) (cells : List Cell) → length cells ≡ length es →
    rows_of es (update_at j (λ _. slot Owned k r cells) ps) ≡ filled j cells (rows_of es ps)
rows_of-home [] ps j k r cells l = refl
rows_of-home (e ∷ es) ps j k r [] l = absurd (omega arith)
rows_of-home (e ∷ es) ps j k r (c ∷ cs) l = row_cons e _ _ _ _
    (map-update_at (cell_at 0) (λ _. slot Owned k r (c ∷ cs)) (λ _. Some c) (λ p. refl) j ps)
    (ap (rows_of es) (map-update_at tail_in (λ _. slot Owned k r (c ∷ cs)) (λ _. slot Owned k r cs) (λ p. refl) j ps) ∙ rows_of-home es (map tail_in ps) j k r cs (omega arith))

-- ---- a further row

pushed_heads : (n : ℕ) (ps : List ColumnSlotValue) (cs : List Cell) → length ps ≡ length cs → AllByRecursion (IsOfLength (suc n)) ps → map (cell_at 0) (push_all ps cs) ≡ map (cell_at 0) ps
pushed_heads n [] [] l h = refl
pushed_heads n [] (c ∷ cs) l h = absurd (omega arith)
pushed_heads n (p ∷ ps) [] l h = absurd (omega arith)
pushed_heads n (p ∷ ps) (c ∷ cs) l h = ap₂ ◌∷◌ (go p.column.cells h.0) (pushed_heads n ps cs (omega arith) h.1)
  where
    go : (cells : List Cell) → length cells ≡ suc n → slice_get (cells ++ c ∷ []) 0 ≡ slice_get cells 0
    go [] k = absurd (omega arith)
    go (x ∷ xs) k = refl

pushed_tails : (n : ℕ) (ps : List ColumnSlotValue) (cs : List Cell) → length ps ≡ length cs → AllByRecursion (IsOfLength (suc n)) ps → map tail_in (push_all ps cs) ≡ push_all (map tail_in ps) cs
pushed_tails n [] [] l h = refl
pushed_tails n [] (c ∷ cs) l h = absurd (omega arith)
pushed_tails n (p ∷ ps) [] l h = absurd (omega arith)
pushed_tails n (p ∷ ps) (c ∷ cs) l h = ap₂ ◌∷◌ (ap (slot p.standing p.column.kind p.column.room) (go p.column.cells h.0)) (pushed_tails n ps cs (omega arith) h.1)
  where
    go : (cells : List Cell) → length cells ≡ suc n → tail_of (cells ++ c ∷ []) ≡ tail_of cells ++ c ∷ []
    go [] k = absurd (omega arith)
    go (x ∷ xs) k = refl

only_heads : (ps : List ColumnSlotValue) (cs : List Cell) → length ps ≡ length cs → AllByRecursion (IsOfLength 0) ps → map (cell_at 0) (push_all ps cs) ≡ map (λ c. Some c) cs
only_heads [] [] l h = refl
only_heads [] (c ∷ cs) l h = absurd (omega arith)
only_heads (p ∷ ps) [] l h = absurd (omega arith)
only_heads (p ∷ ps) (c ∷ cs) l h = ap₂ ◌∷◌ (go p.column.cells h.0) (only_heads ps cs (omega arith) h.1)
  where
    go : (cells : List Cell) → length cells ≡ 0 → slice_get (cells ++ c ∷ []) 0 ≡ Some c
    go [] k = refl
    go (x ∷ xs) k = absurd (omega arith)

pub rows_of-push : (es : List Entity) (e : Entity) (ps : List ColumnSlotValue) (cs : List Cell) → length ps ≡ length cs → AllByRecursion (IsOfLength (length es)) ps →
    rows_of (es ++ e ∷ []) (push_all ps cs) ≡ rows_of es ps ++ row e (map (λ c. Some c) cs) ∷ []
rows_of-push [] e ps cs l h = row_cons e _ _ _ _ (only_heads ps cs l h) refl
rows_of-push (x ∷ es) e ps cs l h = row_cons x _ _ _ _ (pushed_heads (length es) ps cs l h)
    (ap (rows_of (es ++ e ∷ [])) (pushed_tails (length es) ps cs l h)
    ∙ rows_of-push es e (map tail_in ps) cs (length-map ps tail_in ∙ l) (shorter_tails (length es) ps h))

-- ---- a row less

-- the cells of a row that stays
kept_cells : (n i k : ℕ) (ps : List ColumnSlotValue) → k + 1 < n → (k ≡ i → ⊥) → AllByRecursion (IsOfLength n) ps → map (cell_at k) (map (swap_out_in i) ps) ≡ map (cell_at k) ps
kept_cells n i k [] l other h = refl
kept_cells n i k (p ∷ ps) l other h = ap₂ ◌∷◌ (go p.column.cells h.0) (kept_cells n i k ps l other h.1)
  where
    go : (cells : List Cell) → length cells ≡ n → slice_get (swap_removed cells i) k ≡ slice_get cells k
    go [] m = refl
    go (c ∷ cs) m = get-swap_other (c ∷ cs) i k (omega arith) other

-- those of the row that is moved
moved_cells : (n i : ℕ) (ps : List ColumnSlotValue) → i + 1 < n → AllByRecursion (IsOfLength n) ps → map (cell_at i) (map (swap_out_in i) ps) ≡ map (cell_at (n - 1)) ps
moved_cells n i [] l h = refl
moved_cells n i (p ∷ ps) l h = ap₂ ◌∷◌ (go p.column.cells h.0) (moved_cells n i ps l h.1)
  where
    go : (cells : List Cell) → length cells ≡ n → slice_get (swap_removed cells i) i ≡ slice_get cells (n - 1)
    go cells m = get-swap_here cells i (omega arith) ∙ ap (λ k. slice_get cells (k - 1)) m

pub rows_of-swap : (es : List Entity) (ps : List ColumnSlotValue) (i : ℕ) → AllByRecursion (IsOfLength (length es)) ps → i < length es →
    rows_of (swap_removed es i) (map (swap_out_in i) ps) ≡ swap_removed (rows_of es ps) i
rows_of-swap es ps i h l =
    let one = length-swap_removed es i l in
    let many = length-rows_of es ps in
    let other = length-swap_removed (rows_of es ps) i (omega arith) in
    let left = length-rows_of (swap_removed es i) (map (swap_out_in i) ps) in
    same_lists (rows_of (swap_removed es i) (map (swap_out_in i) ps)) (swap_removed (rows_of es ps) i) (omega arith) (λ k d m. at k d (omega arith) (cases_eq k i))
  where
    at : (k : ℕ) (d : TableRow) → k + 1 < length es → (k ≡ i) ⊎ (k ≡ i → ⊥) → get_or (rows_of (swap_removed es i) (map (swap_out_in i) ps)) k d ≡ get_or (swap_removed (rows_of es ps) i) k d
    at k d m (inl same) =
        let shorter = length-swap_removed es i l in
        let many = length-rows_of es ps in
        get_or-rows_of (swap_removed es i) (map (swap_out_in i) ps) k d.entity d (omega arith)
        ∙ ap₂ row (ap (λ j. get_or (swap_removed es i) j d.entity) same ∙ get_or-swap_here es i d.entity (omega arith))
        (ap (λ j. map (cell_at j) (map (swap_out_in i) ps)) same ∙ moved_cells (length es) i ps (omega arith) h)
        ∙ sym (get_or-rows_of es ps (length es - 1) d.entity d (omega arith))
        ∙ ap (λ j. get_or (rows_of es ps) (j - 1) d) (sym many)
        ∙ sym (ap (λ j. get_or (swap_removed (rows_of es ps) i) j d) same ∙ get_or-swap_here (rows_of es ps) i d (omega arith))
    at k d m (inr other) =
        let shorter = length-swap_removed es i l in
        let many = length-rows_of es ps in
        get_or-rows_of (swap_removed es i) (map (swap_out_in i) ps) k d.entity d (omega arith)
        ∙ ap₂ row (get_or-swap_other es i k d.entity m other) (kept_cells (length es) i k ps m other h)
        ∙ sym (get_or-rows_of es ps k d.entity d (omega arith))
        ∙ sym (get_or-swap_other (rows_of es ps) i k d (omega arith) other)
