-- Rows as columns: what a table has inside, and what is done to its columns.
use Rattle.std.specs.Prelude.{◌≡◌, ℕ, ◌+◌, ◌<◌, ◌≤◌, true, List, [], ◌∷◌, ◌++◌, length, map, get_or, Option, Some, None, slice_get}
use Rattle.std.specs.List.{AllByRecursion}
use Rattle.kinds.specs.declared.kind.Kind.{Kind}
use Rattle.kinds.specs.Kind.{kind_number}
use Rattle.model.specs.state.State.{Cell}
use Rattle.model.specs.declared.entities.Entity.{Entity}
use Rattle.model.specs.Lists.{tail_of, update_at}
use Rattle.column_store.specs.declared.stamped.StampedValue.{StampedValue}
use Rattle.column_store.specs.Cells.{stamped_number}
use Rattle.column_store.specs.Column.{ColumnCells}
use Rattle.column_store.specs.EntityList.{EntityListValue}
use Rattle.column_store.specs.Order.{AreApart}
use Rattle.column_store.specs.Kinds.{AreBelow}
use Rattle.column_store.specs.Swapped.{swap_removed}
use Rattle.column_store.specs.Table.{Standing, ColumnSlotValue, TableRow, TableValue, is_home, is_owned, cell_in_row, standing_of, kind_cells, moved_to, homed}
use Rattle.column_store.specs.Table.Standing.{Owned}

-- ---- one column

abbrev pub standing_in : ColumnSlotValue → Standing
standing_in p = p.standing

-- the kind of the column
abbrev pub kind_in : ColumnSlotValue → ℕ
kind_in p = p.column.kind

-- the slot with its column's cells changed
abbrev pub with_cells : (List Cell → List Cell) → ColumnSlotValue → ColumnSlotValue
with_cells f p = record { standing = p.standing; column = record { kind = p.column.kind; cells = f p.column.cells; room = p.column.room } }

-- a column, whatever its room
abbrev pub seen_column : ColumnSlotValue → ColumnCells
seen_column p = record { kind = p.column.kind; cells = p.column.cells; room = 0 }

-- the slot, whatever the room of its column
abbrev pub seen_slot : ColumnSlotValue → ColumnSlotValue
seen_slot p = record { standing = p.standing; column = seen_column p }

-- the slot of a column that stands otherwise
abbrev pub standing_at : Standing → ColumnSlotValue → ColumnSlotValue
standing_at standing p = record { standing = standing; column = p.column }

-- the slot of a column that is the table's alone
abbrev pub owned_slot : ColumnCells → ColumnSlotValue
owned_slot column = record { standing = Owned; column = column }

-- the cell at a row
abbrev pub cell_at : ℕ → ColumnSlotValue → Option Cell
cell_at row p = slice_get p.column.cells row

-- the column without its first cell
abbrev pub tail_in : ColumnSlotValue → ColumnSlotValue
tail_in p = with_cells tail_of p

abbrev pub push_in : Cell → ColumnSlotValue → ColumnSlotValue
push_in cell p = with_cells (λ cells. cells ++ cell ∷ []) p

abbrev pub swap_out_in : ℕ → ColumnSlotValue → ColumnSlotValue
swap_out_in row p = with_cells (λ cells. swap_removed cells row) p

abbrev pub replace_in : ℕ → Cell → ColumnSlotValue → ColumnSlotValue
replace_in row cell p = with_cells (update_at row (λ _. cell)) p

abbrev pub IsOfLength : ℕ → ColumnSlotValue → Type 0
IsOfLength n p = length p.column.cells ≡ n

-- a column that is the table's alone
abbrev pub IsOwned : ColumnSlotValue → Type 0
IsOwned p = is_owned p.standing ≡ true

abbrev pub IsAtHome : ColumnSlotValue → Type 0
IsAtHome p = is_home p.standing ≡ true

-- a column has room for so many components
abbrev pub HasRoom : ℕ → ColumnSlotValue → Type 0
HasRoom n p = n ≤ p.column.room

-- a column of the table's alone, in which there is room for a further component of its kind
pub record Takes (p : ColumnSlotValue) (s : StampedValue) : Type 0 where
  pub owned : is_owned p.standing ≡ true
  pub kind : p.column.kind ≡ stamped_number s
  pub room : length p.column.cells < p.column.room

-- a column may have more room than before, and nothing else has changed
pub record IsRoomier (old new : ColumnSlotValue) : Type 0 where
  pub same : seen_slot new ≡ seen_slot old
  pub room : old.column.room ≤ new.column.room

-- a column of the table's alone, in which a component of its kind can replace that of a row
pub record Renews (row : ℕ) (p : ColumnSlotValue) (s : StampedValue) : Type 0 where
  pub owned : is_owned p.standing ≡ true
  pub kind : p.column.kind ≡ stamped_number s
  pub within : row < length p.column.cells

-- the column of a kind without cells
abbrev pub empty_column : Kind → ColumnSlotValue
empty_column kind = owned_slot (record { kind = kind_number kind; cells = []; room = 0 })

-- a column at home has this row
pub record HoldsRow (row : ℕ) (p : ColumnSlotValue) : Type 0 where
  pub home : is_home p.standing ≡ true
  pub within : row < length p.column.cells

-- a column of the table's alone has this row
pub record OwnsRow (row : ℕ) (p : ColumnSlotValue) : Type 0 where
  pub owned : is_owned p.standing ≡ true
  pub within : row < length p.column.cells

-- ---- all columns

-- the rows: each has the first cells of what is left of the columns
abbrev pub rows_of : List Entity → List ColumnSlotValue → List TableRow
rows_of [] columns = []
rows_of (e ∷ es) columns = record { entity = e; cells = map (cell_at 0) columns } ∷ rows_of es (map tail_in columns)

-- the table of these kinds, entities and columns, whatever the room
abbrev pub table_of : List ℕ → List Entity → List ColumnSlotValue → TableValue
table_of kinds entities columns = record { kinds = kinds; standings = map standing_in columns; rows = rows_of entities columns; room = 0 }

-- a cell goes behind those of each column
abbrev pub push_all : List ColumnSlotValue → List Cell → List ColumnSlotValue
push_all [] cells = []
push_all (p ∷ ps) [] = p ∷ ps
push_all (p ∷ ps) (c ∷ cs) = push_in c p ∷ push_all ps cs

abbrev pub AllTake : List ColumnSlotValue → List StampedValue → Type 0
AllTake [] [] = Unit {0}
AllTake [] (s ∷ ss) = ⊥
AllTake (p ∷ ps) [] = ⊥
AllTake (p ∷ ps) (s ∷ ss) = Takes p s × AllTake ps ss

abbrev pub AreRoomier : List ColumnSlotValue → List ColumnSlotValue → Type 0
AreRoomier [] [] = Unit {0}
AreRoomier [] (q ∷ qs) = ⊥
AreRoomier (p ∷ ps) [] = ⊥
AreRoomier (p ∷ ps) (q ∷ qs) = IsRoomier p q × AreRoomier ps qs

-- a cell of each column is replaced
abbrev pub replace_all : ℕ → List ColumnSlotValue → List Cell → List ColumnSlotValue
replace_all row [] cells = []
replace_all row (p ∷ ps) [] = p ∷ ps
replace_all row (p ∷ ps) (c ∷ cs) = replace_in row c p ∷ replace_all row ps cs

abbrev pub AllRenew : ℕ → List ColumnSlotValue → List StampedValue → Type 0
AllRenew row [] [] = Unit {0}
AllRenew row [] (s ∷ ss) = ⊥
AllRenew row (p ∷ ps) [] = ⊥
AllRenew row (p ∷ ps) (s ∷ ss) = Renews row p s × AllRenew row ps ss

-- what holds of the inside of every table
pub record IsTable (kinds : List ℕ) (entities : List Entity) (columns : List ColumnSlotValue) : Type 0 where
  pub below : AreBelow kinds
  pub apart : AreApart entities
  pub of_kinds : map kind_in columns ≡ kinds
  pub of_length : AllByRecursion (IsOfLength (length entities)) columns

-- the same, with room for so many further rows
pub record IsTableWithRoom (kinds : List ℕ) (entities : EntityListValue) (columns : List ColumnSlotValue) (room : ℕ) : Type 0 where
  pub table : IsTable kinds entities.list columns
  pub within : 0 < room → length entities.list + room ≤ entities.room
  pub each : 0 < room → AllByRecursion (HasRoom (length entities.list + room)) columns

-- the same, where room was made for so many, and asked for so many of them
pub record IsTableWithSpare (kinds : List ℕ) (entities : EntityListValue) (columns : List ColumnSlotValue) (spare room : ℕ) : Type 0 where
  pub kept : IsTableWithRoom kinds entities columns spare
  pub asked : room ≤ spare

-- the table that is seen of it
abbrev pub table_with_room : List ℕ → EntityListValue → List ColumnSlotValue → ℕ → TableValue
table_with_room kinds entities columns room = record (table_of kinds entities.list columns) { room = room }

-- ---- where a column is

-- the place of a kind's column: what the table has there at a row, and what it is where the column stands otherwise or another one comes
pub record IsKindPlace (kinds : List ℕ) (entities : List Entity) (columns : List ColumnSlotValue) (kind column : ℕ) : Type 0 where
  pub within : column < length columns
  pub standing : (d : ColumnSlotValue) → standing_of (table_of kinds entities columns) kind ≡ Some (get_or columns column d).standing
  pub of_kind : (d : ColumnSlotValue) → (get_or columns column d).column.kind ≡ kind
  pub cells : (d : ColumnSlotValue) → map (λ cell. Some cell) (get_or columns column d).column.cells ≡ kind_cells (table_of kinds entities columns) kind
  pub moves : (s : Standing) → table_of kinds entities (update_at column (standing_at s) columns) ≡ moved_to s (table_of kinds entities columns) kind
  pub moves_table : (s : Standing) → IsTable kinds entities (update_at column (standing_at s) columns)
  pub homes : (c : ColumnCells) → c.kind ≡ kind → length c.cells ≡ length entities →
      table_of kinds entities (update_at column (λ _. owned_slot c) columns) ≡ homed (table_of kinds entities columns) c
  pub homes_table : (c : ColumnCells) → c.kind ≡ kind → length c.cells ≡ length entities → IsTable kinds entities (update_at column (λ _. owned_slot c) columns)

-- columns that differ in nothing but which of those at home are read elsewhere too, and their room
pub record AreAlike (old new : List ColumnSlotValue) : Type 0 where
  pub columns : map seen_column new ≡ map seen_column old
  pub homes : map (λ p. is_home p.standing) new ≡ map (λ p. is_home p.standing) old

-- whatever the rows are, the column is there
abbrev pub IsKindPlaced : List ℕ → ℕ → ℕ → Type 0
IsKindPlaced kinds kind column = (entities : List Entity) (columns : List ColumnSlotValue) → IsTable kinds entities columns → IsKindPlace kinds entities columns kind column

-- whatever the rows are, the table has no such kind
pub record IsNoKind (kinds : List ℕ) (kind : ℕ) : Type 0 where
  pub standing : (entities : List Entity) (columns : List ColumnSlotValue) → standing_of (table_of kinds entities columns) kind ≡ None
  pub cell : (entities : List Entity) (columns : List ColumnSlotValue) (row : ℕ) → cell_in_row (table_of kinds entities columns) row kind ≡ None
