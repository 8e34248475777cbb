-- What a table is: the rows of the entities of one archetype, and which of its columns are at home.
use Rattle.std.specs.Prelude.{◌≡◌, ℕ, Bool, true, false, cond, List, [], ◌∷◌, map, slice_get, Option, Some, None, option_map, option_and_then}
use Rattle.model.specs.state.State.{Cell}
use Rattle.model.specs.declared.entities.Entity.{Entity}
use Rattle.column_store.specs.Order.{is_same}
use Rattle.column_store.specs.Kinds.{at_kind, update_kind}
use Rattle.column_store.specs.declared.stamped.StampedValue.{StampedValue}
use Rattle.column_store.specs.Cells.{stamped_cell}
use Rattle.column_store.specs.Column.{ColumnCells}

-- where a column is: the table's alone, at home and read elsewhere too, or lent
pub data Standing : Type 0 where
  Owned Shared Away : Standing

-- the slot of a column in a table: where the column is, and the column, which is as it left where it is away
pub record ColumnSlotValue : Type 0 where
  pub standing : Standing
  pub column : ColumnCells

-- a row: an entity, and its cell of each of the table's kinds
pub record TableRow : Type 0 where
  pub entity : Entity
  pub cells : List (Option Cell)

-- a table: the numbers of its kinds, rising, where the column of each is, the rows as they stand, and for how many further ones there is
-- room. A column that is away has in them the cells with which it left
pub record TableValue : Type 0 where
  pub kinds : List ℕ
  pub standings : List Standing
  pub rows : List TableRow
  pub room : ℕ

-- whether a column is at home
abbrev pub is_home : Standing → Bool
is_home Away = false
is_home _ = true

-- whether a column is the table's alone
abbrev pub is_owned : Standing → Bool
is_owned Owned = true
is_owned _ = false

-- a column that is there is at home
abbrev pub IsHome : Option Standing → Type 0
IsHome standing = option_map is_home standing ≡ Some true

-- whether a column is at home, where it is there
abbrev pub is_not_away : Option Standing → Bool
is_not_away None = true
is_not_away (Some standing) = is_home standing

-- ---- rows

-- the row of an entity with these components
abbrev pub new_row : Entity → List StampedValue → TableRow
new_row e components = record { entity = e; cells = map (λ s. Some (stamped_cell s)) components }

-- the row of an entity
abbrev pub row_of : Entity → List TableRow → Option TableRow
row_of e [] = None
row_of e (row ∷ rows) = cond (is_same row.entity e) (Some row) (row_of e rows)

-- a row that has these components in place of its own
abbrev pub renewed_row : List StampedValue → TableRow → TableRow
renewed_row components row = record { entity = row.entity; cells = map (λ s. Some (stamped_cell s)) components }

-- a row with f applied to its cell of a kind
abbrev pub with_cell_at : List ℕ → ℕ → (Option Cell → Option Cell) → TableRow → TableRow
with_cell_at kinds kind f row = record { entity = row.entity; cells = update_kind kinds kind f row.cells }

-- the cell of a kind in a row, none where the kind isn't the table's
abbrev pub cell_of_kind : List ℕ → ℕ → TableRow → Option Cell
cell_of_kind kinds kind row = option_and_then (λ cell. cell) (at_kind kinds kind row.cells)

-- rows that take the cells of a column, one each
abbrev pub filled_rows : List ℕ → ℕ → List Cell → List TableRow → List TableRow
filled_rows kinds kind cells [] = []
filled_rows kinds kind [] (row ∷ rows) = row ∷ rows
filled_rows kinds kind (cell ∷ cells) (row ∷ rows) =
    with_cell_at kinds kind (λ _. Some cell) row ∷ filled_rows kinds kind cells rows

-- ---- a table

-- the cell of a kind at a row: there where both are
abbrev pub cell_in_row : TableValue → ℕ → ℕ → Option Cell
cell_in_row t row kind = option_and_then (cell_of_kind t.kinds kind) (slice_get t.rows row)

-- where the column of a kind is
abbrev pub standing_of : TableValue → ℕ → Option Standing
standing_of t kind = at_kind t.kinds kind t.standings

-- the cells of a kind, row by row
abbrev pub kind_cells : TableValue → ℕ → List (Option Cell)
kind_cells t kind = map (cell_of_kind t.kinds kind) t.rows

-- the table has no such kind
pub record IsWithout (t : TableValue) (kind : ℕ) : Type 0 where
  pub standing : standing_of t kind ≡ None
  pub cell : (row : ℕ) → cell_in_row t row kind ≡ None

-- a column is that of a kind
pub record IsColumnOf (t : TableValue) (kind : ℕ) (column : ColumnCells) : Type 0 where
  pub kind_is : column.kind ≡ kind
  pub cells_are : map (λ cell. Some cell) column.cells ≡ kind_cells t kind

-- the table whose column of a kind stands otherwise. Where columns change place, room is made anew
abbrev pub moved_to : Standing → TableValue → ℕ → TableValue
moved_to standing t kind = record {
  kinds = t.kinds;
  standings = update_kind t.kinds kind (λ _. standing) t.standings;
  rows = t.rows;
  room = 0;
}

-- the table whose column of a kind has left
abbrev pub lent : TableValue → ℕ → TableValue
lent t kind = moved_to Away t kind

-- the table whose column of a kind is read elsewhere too
abbrev pub shared : TableValue → ℕ → TableValue
shared t kind = moved_to Shared t kind

-- the table whose columns are its alone
abbrev pub owned : TableValue → TableValue
owned t = record { kinds = t.kinds; standings = map (λ _. Owned) t.standings; rows = t.rows; room = 0 }

-- tables that differ in nothing but which of the columns at home are read elsewhere too, and their room
pub record IsAlike (old new : TableValue) : Type 0 where
  pub kinds : new.kinds ≡ old.kinds
  pub homes : map is_home new.standings ≡ map is_home old.standings
  pub rows : new.rows ≡ old.rows

-- the table with a column home again
abbrev pub homed : TableValue → ColumnCells → TableValue
homed t column = record {
  kinds = t.kinds;
  standings = update_kind t.kinds column.kind (λ _. Owned) t.standings;
  rows = filled_rows t.kinds column.kind column.cells t.rows;
  room = 0;
}

-- the table of these kinds without rows
abbrev pub empty_table : List ℕ → TableValue
empty_table kinds = record { kinds = kinds; standings = map (λ _. Owned) kinds; rows = []; room = 0 }
