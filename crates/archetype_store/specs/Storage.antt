-- The rows by index that tables of archetypes hold, and what a change of one row leaves.
use Rattle.std.specs.Prelude.{◌≡◌, ℕ, Bool, true, false, cond, ◌==◌, ◌&&◌, List, [], ◌∷◌, get_or, map, Option, Some, None, option_map, is_some}
use Rattle.std.specs.List.{AllByRecursion}
use Rattle.model.specs.Lists.{map_index, with_at, is_there}
use Rattle.model.specs.state.State.{Cell, Component}
use Rattle.model.specs.state.Rows.{cell_at}
use Rattle.model.specs.declared.entities.Entity.{Entity}
use Rattle.column_store.specs.Order.{is_same}
use Rattle.column_store.specs.Table.{TableValue}
use Rattle.archetype_store.specs.declared.change.EntityChange.{EntityChange}
use Rattle.archetype_store.specs.Changes.{components_left}
use Rattle.archetype_store.specs.declared.locations.EntityLocation.{EntityLocation}
use Rattle.archetype_store.specs.Layout.{Archetype, layout_of, archetype_at, is_in_archetype, with_home, IsArchetype, AreOfOtherKinds}
use Rattle.archetype_store.specs.Tables.{kinds_at, held_at, row_or_none, AreShaped, AreUnlike, AreEmptyHome, AreUnshared}

-- rows by index, of each index that has a row the generation of its entity, and how the rows are laid out
pub record StorageValue : Type 0 where
  pub rows : List (List Component)
  pub holders : List (Option ℕ)
  pub layout : List Archetype

-- the row of an index: none past the end
abbrev pub row_of : List (List Component) → ℕ → List Component
row_of rows index = get_or rows index []

-- the generation of the entity that has the row of an index
abbrev pub holder_of : List (Option ℕ) → ℕ → Option ℕ
holder_of holders index = get_or holders index None

-- nobody, or an entity of this generation
abbrev pub IsHolder : ℕ → Option ℕ → Type 0
IsHolder generation None = Unit {0}
IsHolder generation (Some g) = g ≡ generation

-- who has a row: nobody where it is empty
abbrev pub holder_if : List Component → ℕ → Option ℕ
holder_if row generation = cond (is_there row) (Some generation) None

-- rows that are alike at each index, of the same entities, laid out alike
pub record AreAlike (old new : StorageValue) : Type 0 where
  pub rows : (i : ℕ) → row_of new.rows i ≡ row_of old.rows i
  pub holders : (i : ℕ) → holder_of new.holders i ≡ holder_of old.holders i
  pub layout : new.layout ≡ old.layout

-- an entity has this row now, and each other index what it had
pub record HasRow (old : StorageValue) (e : Entity) (row : List Component) (new : StorageValue) : Type 0 where
  pub rows : (i : ℕ) → row_of new.rows i ≡ with_at e.index row (row_of old.rows) i
  pub holders : (i : ℕ) → holder_of new.holders i ≡ with_at e.index (holder_if row e.generation) (holder_of old.holders) i

-- the row of an index after changes, and who has it
abbrev pub row_changed : List EntityChange → ℕ → List Component → List Component
row_changed [] index row = row
row_changed (c ∷ cs) index row = cond (index == c.entity.index) (components_left c.fate) (row_changed cs index row)

abbrev pub holder_changed : List EntityChange → ℕ → Option ℕ → Option ℕ
holder_changed [] index holder = holder
holder_changed (c ∷ cs) index holder = cond (index == c.entity.index) (holder_if (components_left c.fate) c.entity.generation) (holder_changed cs index holder)

-- the entities that are changed have the rows that are told now, and each other index what it had
pub record HaveRows (old : StorageValue) (cs : List EntityChange) (new : StorageValue) : Type 0 where
  pub rows : (i : ℕ) → row_of new.rows i ≡ row_changed cs i (row_of old.rows i)
  pub holders : (i : ℕ) → holder_of new.holders i ≡ holder_changed cs i (holder_of old.holders i)

-- the layout is that of the rows: who is in an archetype has a row of just its kinds, who has a row is in one, none is without
-- entities, and no two have the same kinds
pub record IsLaidOut (a : StorageValue) : Type 0 where
  pub theirs : (n : ℕ) (e : Entity) → is_in_archetype e (archetype_at a.layout n) ≡ true →
      (holder_of a.holders e.index ≡ Some e.generation) × (map (λ c. c.kind) (row_of a.rows e.index) ≡ (archetype_at a.layout n).kinds)
  pub every : (e : Entity) → holder_of a.holders e.index ≡ Some e.generation → (n : ℕ) × (is_in_archetype e (archetype_at a.layout n) ≡ true)
  pub each : AllByRecursion IsArchetype a.layout
  pub unlike : AreOfOtherKinds a.layout

-- ---- tables and places

-- where the entity of an index is
abbrev pub place_of : List (Option EntityLocation) → ℕ → Option EntityLocation
place_of places index = get_or places index None

-- whether a place is that of an entity of this generation in this table
abbrev pub is_place : Option EntityLocation → ℕ → ℕ → Bool
is_place None generation table = false
is_place (Some p) generation table = (p.generation == generation) && (p.table == table)

-- the row of the entity of an index that is at a place
abbrev pub row_in : List TableValue → ℕ → Option EntityLocation → List Component
row_in tables index None = []
row_in tables index (Some p) = row_or_none (held_at tables p.table (record { index = index; generation = p.generation }))

-- the generation at a place
abbrev pub holder_in : Option EntityLocation → Option ℕ
holder_in place = option_map (λ p. p.generation) place

-- what tables and places are to contracts
abbrev pub archetypes_of : List TableValue → List (Option EntityLocation) → StorageValue
archetypes_of tables places = record { rows = map_index (row_in tables) places; holders = map holder_in places; layout = layout_of tables }

-- a row that is there has the kinds of its table
abbrev pub IsOfKinds : List ℕ → Option (List Component) → Type 0
IsOfKinds kinds None = Unit {0}
IsOfKinds kinds (Some row) = map (λ c. c.kind) row ≡ kinds

-- what holds of tables and places: an entity has a row in a table just where its index has its place there, its components are of the
-- table's kinds, and no two tables have the same kinds
pub record AreArchetypes (tables : List TableValue) (places : List (Option EntityLocation)) : Type 0 where
  pub agree : (t : ℕ) (e : Entity) → is_some (held_at tables t e) ≡ is_place (place_of places e.index) e.generation t
  pub of_kinds : (t : ℕ) (e : Entity) → IsOfKinds (kinds_at tables t) (held_at tables t e)
  pub shaped : AreShaped tables
  pub unlike : AreUnlike tables

-- what holds of tables and places, and of the note whether columns are read elsewhere too: where it is false none is. A table without
-- rows has its columns at home
pub record IsStored (tables : List TableValue) (places : List (Option EntityLocation)) (shared : Bool) : Type 0 where
  pub whole : AreArchetypes tables places
  pub empty : AreEmptyHome tables
  pub unshared : shared ≡ false → AreUnshared tables

-- ---- cells of columns

-- the cells of a kind of these entities, by rows
abbrev pub row_cells : List (List Component) → List Entity → ℕ → List (Option Cell)
row_cells rows entities kind = map (λ e. cell_at (row_of rows e.index) kind) entities

-- the cell beside an entity
abbrev pub cell_for : Entity → List Entity → List Cell → Option Cell
cell_for e [] cells = None
cell_for e (x ∷ xs) [] = None
cell_for e (x ∷ xs) (cell ∷ cells) = cond (is_same x e) (Some cell) (cell_for e xs cells)

-- the cell beside the entity of an index that has a row
abbrev pub cell_held : List Entity → List Cell → ℕ → Option ℕ → Option Cell
cell_held entities cells index None = None
cell_held entities cells index (Some generation) = cell_for (record { index = index; generation = generation }) entities cells

-- the row with another cell of a kind that it has
abbrev pub row_with : ℕ → Option Cell → List Component → List Component
row_with kind None row = row
row_with kind (Some cell) row = map (λ c. cond (c.kind == kind) (record { kind = c.kind; cell = cell }) c) row

-- a column of these cells came home to an archetype
pub record IsFilled (old : StorageValue) (n kind : ℕ) (cells : List Cell) (new : StorageValue) : Type 0 where
  pub rows : (i : ℕ) → row_of new.rows i ≡ row_with kind (cell_held (archetype_at old.layout n).entities cells i (holder_of old.holders i)) (row_of old.rows i)
  pub holders : new.holders ≡ old.holders
  pub layout : new.layout ≡ with_home true n kind old.layout
