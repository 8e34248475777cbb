-- Tables of archetypes: what they hold of an entity, and what a change of one row leaves.
use Rattle.std.specs.Prelude.{◌≡◌, ◌≢◌, ℕ, zero, suc, ◌<◌, ◌≤◌, Bool, true, false, cond, ◌==◌, List, [], ◌∷◌, length, get_or, map, slice_get, Option, Some, None, option_map}
use Rattle.std.specs.List.{AllByRecursion, list_all}
use Rattle.model.specs.Lists.{is_there}
use Rattle.model.specs.state.State.{Cell, Component}
use Rattle.model.specs.declared.entities.Entity.{Entity}
use Rattle.archetype_store.specs.declared.locations.EntityLocation.{EntityLocation}
use Rattle.column_store.specs.Order.{is_same}
use Rattle.column_store.specs.Components.{components_of}
use Rattle.archetype_store.specs.Layout.{layout_of, IsShape}
use Rattle.column_store.specs.Table.{Standing, TableValue, is_home, is_owned, empty_table, row_of, kind_cells, IsAlike}
use Rattle.column_store.specs.Table.Standing.{Shared}

-- the table of a number: past the end one without kinds
abbrev pub table_at : List TableValue → ℕ → TableValue
table_at tables table = get_or tables table (empty_table [])

-- the kinds of a table
abbrev pub kinds_at : List TableValue → ℕ → List ℕ
kinds_at tables table = (table_at tables table).kinds

-- for how many further rows a table has room
abbrev pub room_at : List TableValue → ℕ → ℕ
room_at tables table = (table_at tables table).room

-- the table with room for so many further rows
abbrev pub with_room : ℕ → TableValue → TableValue
with_room room t = record { kinds = t.kinds; standings = t.standings; rows = t.rows; room = room }

-- the entities of a table, row by row
abbrev pub entities_at : List TableValue → ℕ → List Entity
entities_at tables table = map (λ row. row.entity) (table_at tables table).rows

-- the entity of a row of a table
abbrev pub entity_in_row : List TableValue → ℕ → ℕ → Option Entity
entity_in_row tables table row = slice_get (entities_at tables table) row

-- whether a column isn't read elsewhere while it is at home
abbrev pub is_unshared : Standing → Bool
is_unshared Shared = false
is_unshared _ = true

-- ---- what is held

-- the components of an entity in a table
abbrev pub held_in : TableValue → Entity → Option (List Component)
held_in t e = option_map (components_of t.kinds) (row_of e t.rows)

-- the components of an entity in the table of a number
abbrev pub held_at : List TableValue → ℕ → Entity → Option (List Component)
held_at tables table e = held_in (table_at tables table) e

-- a row that may not be there
abbrev pub row_or_none : Option (List Component) → List Component
row_or_none None = []
row_or_none (Some row) = row

-- ---- what holds of the tables

-- each table is of this shape
abbrev pub AreShaped : List TableValue → Type 0
AreShaped tables = AllByRecursion (λ t. IsShape t.kinds t.standings) tables

-- all columns are at home
abbrev pub AreHome : List TableValue → Type 0
AreHome tables = AllByRecursion (λ t. list_all is_home t.standings ≡ true) tables

-- all columns are the tables' alone
abbrev pub AreOwned : List TableValue → Type 0
AreOwned tables = AllByRecursion (λ t. list_all is_owned t.standings ≡ true) tables

-- no column at home is read elsewhere too
abbrev pub AreUnshared : List TableValue → Type 0
AreUnshared tables = AllByRecursion (λ t. list_all is_unshared t.standings ≡ true) tables

-- a table without rows has its columns at home
abbrev pub AreEmptyHome : List TableValue → Type 0
AreEmptyHome tables = AllByRecursion (λ t. is_there t.rows ≡ false → list_all is_home t.standings ≡ true) tables

-- tables that differ in nothing but which of the columns at home are read elsewhere too
abbrev pub AreAllAlike : List TableValue → List TableValue → Type 0
AreAllAlike [] [] = Unit {0}
AreAllAlike [] (u ∷ us) = ⊥
AreAllAlike (t ∷ ts) [] = ⊥
AreAllAlike (t ∷ ts) (u ∷ us) = IsAlike t u × AreAllAlike ts us

-- the number of the archetype of a table: so many tables before it have rows
abbrev pub number_of : List TableValue → ℕ → ℕ
number_of [] table = zero
number_of (t ∷ ts) zero = zero
number_of (t ∷ ts) (suc table) = cond (is_there t.rows) (suc (number_of ts table)) (number_of ts table)

-- the table of an archetype
pub record IsTableOf (tables : List TableValue) (archetype table : ℕ) : Type 0 where
  pub within : table < length tables
  pub peopled : is_there (table_at tables table).rows ≡ true
  pub number : number_of tables table ≡ archetype

-- the cells of the kind with this number in a table
abbrev pub cells_at : List TableValue → ℕ → ℕ → List (Option Cell)
cells_at tables table kind = kind_cells (table_at tables table) kind

-- no two tables have the same kinds
abbrev pub AreUnlike : List TableValue → Type 0
AreUnlike [] = Unit {0}
AreUnlike (t ∷ ts) = AllByRecursion (λ u. t.kinds ≢ u.kinds) ts × AreUnlike ts

-- a table without its rows and its room
abbrev pub shape_of : TableValue → TableValue
shape_of t = record { kinds = t.kinds; standings = t.standings; rows = []; room = 0 }

-- ---- a change

-- what tables hold of one entity in one table is this now, and nothing else has changed
pub record IsHeldNow (old new : List TableValue) (table : ℕ) (e : Entity) (held : Option (List Component)) : Type 0 where
  pub others : (t : ℕ) (x : Entity) → is_same e x ≡ false → held_at new t x ≡ held_at old t x
  pub here : (t : ℕ) → held_at new t e ≡ cond (t == table) held (held_at old t e)
  pub shapes : map shape_of new ≡ map shape_of old

-- there may be one more table, without rows
pub record IsGrown (old new : List TableValue) : Type 0 where
  pub held : (t : ℕ) (x : Entity) → held_at new t x ≡ held_at old t x
  pub entities : (t : ℕ) → entities_at new t ≡ entities_at old t
  pub rooms : (t : ℕ) → room_at new t ≡ room_at old t
  pub kinds : (t : ℕ) → t < length old → kinds_at new t ≡ kinds_at old t
  pub longer : length old ≤ length new
  pub shaped : AreShaped new
  pub unlike : AreUnlike new
  pub owned : AreOwned old → AreOwned new
  pub layout : layout_of new ≡ layout_of old

-- the rows of one table were changed, those of no other, and no room
pub record IsOneTable (old new : List TableValue) (table : ℕ) (entities : List Entity) : Type 0 where
  pub others : (t : ℕ) → (t ≡ table → ⊥) → entities_at new t ≡ entities_at old t
  pub here : entities_at new table ≡ entities
  pub other_rooms : (t : ℕ) → (t ≡ table → ⊥) → room_at new t ≡ room_at old t

-- whether a place is in a table
abbrev pub is_in : Option EntityLocation → ℕ → Bool
is_in None table = false
is_in (Some p) table = table == p.table
