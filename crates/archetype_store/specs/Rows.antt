-- The rows of entities in tables of archetypes, and what a call makes of them.
use Rattle.std.specs.Prelude.{◌≡◌, ◌≢◌, ℕ, suc, ◌-◌, ◌<◌, Bool, cond, List, [], ◌∷◌, ◌++◌, length, map, set, slice_get, Option, Some, None}
use Rattle.model.specs.Lists.{update_at}
use Rattle.model.specs.declared.entities.Entity.{Entity}
use Rattle.model.specs.state.State.{Cell}
use Rattle.column_store.specs.declared.stamped.StampedValue.{StampedValue}
use Rattle.column_store.specs.Cells.{stamped_number}
use Rattle.column_store.specs.Order.{is_same, AreApart}
use Rattle.column_store.specs.Swapped.{swap_removed}
use Rattle.column_store.specs.Table.{TableRow, TableValue, new_row, renewed_row}
use Rattle.archetype_store.specs.declared.entity_rows.CellRef.{CellRef}
use Rattle.archetype_store.specs.declared.locations.EntityLocation.{EntityLocation}
use Rattle.archetype_store.specs.RowNumbers.{AreRowsKnown}
use Rattle.archetype_store.specs.Storage.{StorageValue, archetypes_of, holder_in, place_of, AreArchetypes, IsHolder, IsStored}
use Rattle.archetype_store.specs.Tables.{table_at, kinds_at, room_at, entities_at, with_room}

-- tables of archetypes, and by index in which of them an entity has its row
pub record RowsValue : Type 0 where
  pub tables : List TableValue
  pub places : List (Option EntityLocation)

-- the rows by index that are seen of them
abbrev pub rows_seen : RowsValue → StorageValue
rows_seen v = archetypes_of v.tables v.places

-- tables and places agree, and the row at an entity's place and number is its
pub record AreKept (tables : List TableValue) (places : List (Option EntityLocation)) (numbers : List ℕ) (shared : Bool) : Type 0 where
  pub stored : IsStored tables places shared
  pub known : AreRowsKnown tables places numbers

-- what is known of rows: an entity has one just where it has a place, and none has two
pub record AreRows (v : RowsValue) : Type 0 where
  pub whole : AreArchetypes v.tables v.places
  pub apart : (t : ℕ) → AreApart (entities_at v.tables t)

-- the cell that is told, and that it is there, in a column of a kind
abbrev pub cell_seen : CellRef → Option Cell
cell_seen c = slice_get c.column.now.cells c.row

pub record IsCellOf (kind : ℕ) (c : CellRef) : Type 0 where
  pub kind_is : c.column.now.kind ≡ kind
  pub within : c.row < length c.column.now.cells

-- ---- one row

-- how many rows come before that of an entity
abbrev pub row_number : Entity → List TableRow → ℕ
row_number e [] = 0
row_number e (row ∷ rows) = cond (is_same row.entity e) 0 (suc (row_number e rows))

-- a table with the row of an entity more, in room that was made for it
abbrev pub with_row : Entity → List StampedValue → TableValue → TableValue
with_row e ss t = record { kinds = t.kinds; standings = t.standings; rows = t.rows ++ new_row e ss ∷ []; room = t.room - 1 }

-- a table without the row of an entity, whose place the last one takes
abbrev pub without_row : Entity → TableValue → TableValue
without_row e t = record { kinds = t.kinds; standings = t.standings; rows = swap_removed t.rows (row_number e t.rows); room = t.room }

-- a table with other components in the row of an entity
abbrev pub with_row_renewed : Entity → List StampedValue → TableValue → TableValue
with_row_renewed e ss t = record { kinds = t.kinds; standings = t.standings; rows = update_at (row_number e t.rows) (renewed_row ss) t.rows; room = t.room }

-- another table in the place of one
abbrev pub with_table : RowsValue → ℕ → TableValue → RowsValue
with_table v table t = record { tables = set v.tables table t; places = v.places }

-- the place of an entity in a table
abbrev pub placed_in : Entity → ℕ → Option EntityLocation
placed_in e table = Some (record { generation = e.generation; table = table })

-- an entity without a row came into a table
abbrev pub joined : RowsValue → Entity → ℕ → List StampedValue → RowsValue
joined v e table ss = record { tables = set v.tables table (with_row e ss (table_at v.tables table)); places = set v.places e.index (placed_in e table) }

-- an entity left the table where it has its row
abbrev pub left_from : RowsValue → Entity → Option EntityLocation → RowsValue
left_from v e None = v
left_from v e (Some p) = record { tables = set v.tables p.table (without_row e (table_at v.tables p.table)); places = set v.places e.index None }

abbrev pub left : RowsValue → Entity → RowsValue
left v e = left_from v e (place_of v.places e.index)

-- the row of an entity has other components, in the table where it is
abbrev pub renewed : RowsValue → Entity → ℕ → List StampedValue → RowsValue
renewed v e table ss = with_table v table (with_row_renewed e ss (table_at v.tables table))

-- a table has room for so many further rows
abbrev pub roomed : RowsValue → ℕ → ℕ → RowsValue
roomed v table room = with_table v table (with_room room (table_at v.tables table))

-- ---- who can come, and what can be replaced

-- an entity that has no row can come into a table of its kinds, where there is room
pub record CanJoin (v : RowsValue) (e : Entity) (table : ℕ) (ss : List StampedValue) : Type 0 where
  pub within : e.index < length v.places
  pub none : place_of v.places e.index ≡ None
  pub there : table < length v.tables
  pub kinds : kinds_at v.tables table ≡ map stamped_number ss
  pub some : ss ≢ []
  pub room : 0 < room_at v.tables table

-- nobody of another generation has the row of an entity's index
abbrev pub IsTheirs : RowsValue → Entity → Type 0
IsTheirs v e = IsHolder e.generation (holder_in (place_of v.places e.index))

-- the table of an entity's row is of these kinds
pub record CanRenew (v : RowsValue) (e : Entity) (table : ℕ) (ss : List StampedValue) : Type 0 where
  pub here : place_of v.places e.index ≡ placed_in e table
  pub kinds : kinds_at v.tables table ≡ map stamped_number ss
  pub some : ss ≢ []
