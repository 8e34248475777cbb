-- Rows of several entities that change at once: where each goes, and for how many there is room.
use Rattle.std.specs.Prelude.{◌≡◌, ℕ, ◌+◌, ◌<◌, ◌≤◌, Bool, false, true, cond, ◌==◌, List, [], ◌∷◌, length, map, Option, Some, None}
use Rattle.model.specs.Lists.{is_there}
use Rattle.column_store.specs.declared.stamped.StampedValue.{StampedValue}
use Rattle.column_store.specs.Cells.{stamped_number}
use Rattle.column_store.specs.Table.{TableValue}
use Rattle.archetype_store.specs.declared.change.EntityChange.{EntityChange}
use Rattle.archetype_store.specs.declared.locations.EntityLocation.{EntityLocation}
use Rattle.archetype_store.specs.declared.row_moves.RowMove.{RowMove}
use Rattle.archetype_store.specs.Changes.{row_left}
use Rattle.archetype_store.specs.Rows.{RowsValue, joined, left, renewed}
use Rattle.archetype_store.specs.Tables.{kinds_at, room_at, is_in}
use Rattle.archetype_store.specs.Storage.{StorageValue, place_of, holder_in, row_of, holder_of, row_changed, holder_changed, IsHolder}

-- the change that a row is moved for
abbrev pub change_of : RowMove → EntityChange
change_of m = m.change.now

-- the components that are left
abbrev pub components_moved : RowMove → List StampedValue
components_moved m = row_left m.change.now.fate

-- a table that is another one than that where the row is
abbrev pub other_table : Option EntityLocation → Option ℕ → Option ℕ
other_table from None = None
other_table from (Some to) = cond (is_in from to) None (Some to)

-- the table that the row newly comes into
abbrev pub arrives_in : List (Option EntityLocation) → RowMove → Option ℕ
arrives_in places m = other_table (place_of places m.change.now.entity.index) m.to

-- whether a row stays in the table where it is
abbrev pub stays_there : Option EntityLocation → Option ℕ → Bool
stays_there from None = false
stays_there from (Some to) = is_in from to

abbrev pub stays_in : List (Option EntityLocation) → RowMove → Bool
stays_in places m = stays_there (place_of places m.change.now.entity.index) m.to

-- a row that goes elsewhere has left its table
abbrev pub HasLeft : List (Option EntityLocation) → RowMove → Type 0
HasLeft places m = stays_in places m ≡ false → place_of places m.change.now.entity.index ≡ None

-- whether this is the table
abbrev pub is_table : Option ℕ → ℕ → Bool
is_table None t = false
is_table (Some to) t = t == to

-- how many rows newly come into a table
abbrev pub one_if : Bool → ℕ
one_if true = 1
one_if false = 0

abbrev pub coming_count : List (Option EntityLocation) → List RowMove → ℕ → ℕ
coming_count places [] t = 0
coming_count places (m ∷ ms) t = one_if (is_table (arrives_in places m) t) + coming_count places ms t

-- in each table there is room for those that come
abbrev pub HaveRoom : List TableValue → List (Option EntityLocation) → List RowMove → Type 0
HaveRoom tables places ms = (t : ℕ) → coming_count places ms t ≤ room_at tables t

-- a row that is left has its table, which is of its kinds
pub record IsTarget (tables : List TableValue) (row : List StampedValue) (to : ℕ) : Type 0 where
  pub within : to < length tables
  pub kinds : kinds_at tables to ≡ map stamped_number row
  pub there : is_there row ≡ true

-- where a row is, and where it goes
pub record IsPlanned (tables : List TableValue) (places : List (Option EntityLocation)) (m : RowMove) : Type 0 where
  pub within : m.change.now.entity.index < length places
  pub holder : IsHolder m.change.now.entity.generation (holder_in (place_of places m.change.now.entity.index))
  pub to : (t : ℕ) → m.to ≡ Some t → IsTarget tables (components_moved m) t
  pub none : m.to ≡ None → components_moved m ≡ []

-- what a row that goes elsewhere leaves
abbrev pub gone : RowsValue → RowMove → RowsValue
gone v m = cond (stays_in v.places m) v (left v m.change.now.entity)

-- a row that has left has come where it goes: nowhere, or into another table, or it has other components where it is
abbrev pub come_to : RowsValue → RowMove → Option ℕ → Option ℕ → RowsValue
come_to v m None newly = v
come_to v m (Some to) None = renewed v m.change.now.entity to (components_moved m)
come_to v m (Some to) (Some newly) = joined v m.change.now.entity to (components_moved m)

abbrev pub come : RowsValue → RowMove → RowsValue
come v m = come_to v m m.to (arrives_in v.places m)

-- rows that are alike but for one index
pub record AreAlikeBut (old : StorageValue) (index : ℕ) (new : StorageValue) : Type 0 where
  pub rows : (i : ℕ) → (i == index) ≡ false → row_of new.rows i ≡ row_of old.rows i
  pub holders : (i : ℕ) → (i == index) ≡ false → holder_of new.holders i ≡ holder_of old.holders i

-- rows that are alike but where these changes are: once they are made, it is as if they were made of the old ones
pub record AreAlikeBefore (old : StorageValue) (cs : List EntityChange) (new : StorageValue) : Type 0 where
  pub rows : (i : ℕ) → row_changed cs i (row_of new.rows i) ≡ row_changed cs i (row_of old.rows i)
  pub holders : (i : ℕ) → holder_changed cs i (holder_of new.holders i) ≡ holder_changed cs i (holder_of old.holders i)
