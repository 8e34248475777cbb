-- The cells of a kind in a table, by its column.
use Rattle.archetype_store.proofs.Common.{◌≡◌, ℕ, zero, suc, true, List, [], ◌∷◌, length, map, Option, Some, None, option_and_then, option_map, refl, sym, ap, ◌∙◌, slice_get, length-map, Cell, ColumnCells, Standing, TableRow, TableValue, is_home, is_not_away, cell_of_kind, cell_in_row, IsColumnOf, IsHome}

cells_by_row : (ns : List ℕ) (k : ℕ) (rows : List TableRow) (cells : List Cell) → map (λ cell. Some cell) cells ≡ map (cell_of_kind ns k) rows → (row : ℕ) →
    option_and_then (cell_of_kind ns k) (slice_get rows row) ≡ slice_get cells row
cells_by_row ns k [] [] h row = refl
cells_by_row ns k [] (c ∷ cs) h row = absurd (cc)
cells_by_row ns k (r ∷ rs) [] h row = absurd (cc)
cells_by_row ns k (r ∷ rs) (c ∷ cs) h zero = let e : cell_of_kind ns k r ≡ Some c = cc in e
cells_by_row ns k (r ∷ rs) (c ∷ cs) h (suc row) = cells_by_row ns k rs cs (cc) row

pub cell_in_column : (t : TableValue) (k : ℕ) (column : ColumnCells) → IsColumnOf t k column → (row : ℕ) → cell_in_row t row k ≡ slice_get column.cells row
cell_in_column t k column h row = cells_by_row t.kinds k t.rows column.cells h.cells_are row

pub rows_in_column : (t : TableValue) (k : ℕ) (column : ColumnCells) → IsColumnOf t k column → length column.cells ≡ length t.rows
rows_in_column t k column h = sym (length-map column.cells (λ cell. Some cell)) ∙ ap length h.cells_are ∙ length-map t.rows (cell_of_kind t.kinds k)

-- a column that is at home hasn't left
pub home_not_away : (o : Option Standing) → IsHome o → is_not_away o ≡ true
home_not_away None h = let e : option_map is_home None ≡ Some true = h in absurd (cc)
home_not_away (Some s) h = let e : option_map is_home (Some s) ≡ Some true = h in cc
