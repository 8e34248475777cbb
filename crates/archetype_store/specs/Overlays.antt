-- Columns that come home as writes laid over a state.
use Rattle.std.specs.Prelude.{◌≡◌, ℕ, ℤ, true, Bool, cond, ◌==◌, ◌&&◌, List, [], ◌∷◌, map, Option, Some, None, option_map}
use Rattle.std.specs.List.{list_any, AllByRecursion}
use Rattle.model.specs.state.State.{Cell, Slot}
use Rattle.model.specs.state.Rows.{IsRising}
use Rattle.model.specs.shown.Overlay.{cell_after, slots_after}
use Rattle.model.specs.state.Shape.{IsWorld}
use Rattle.model.specs.declared.entities.Entity.{Entity}
use Rattle.kinds.specs.Components.{widths}
use Rattle.archetype_store.specs.declared.columns.TakenColumn.{TakenColumn}
use Rattle.archetype_store.specs.Layout.{Archetype, archetype_at, has_index, IsLayoutOf}
use Rattle.archetype_store.specs.Slot.{cell_of}
use Rattle.archetype_store.specs.Store.{StoreValue, with_slots, slots_with}
use Rattle.archetype_store.specs.Lending.{all_home}

-- the writes by index and kind, with those of a kind of these entities among them
abbrev pub also_written : List Entity → ℕ → (ℕ → ℕ → Option (List ℤ)) → (ℕ → ℕ → Option (List ℤ)) → ℕ → ℕ → Option (List ℤ)
also_written entities kind words before index k = cond (has_index index entities && (k == kind)) (words index k) (before index k)

-- the writes that columns have, each of its kind and of the entities of its archetype
abbrev pub written_by : List Archetype → (ℕ → ℕ → Option (List ℤ)) → List TakenColumn → ℕ → ℕ → Option (List ℤ)
written_by layout words [] index kind = None
written_by layout words (c ∷ cs) index kind = also_written (archetype_at layout c.archetype).entities c.column.kind words (written_by layout words cs) index kind

-- a column's cells are the store's after writes at a tick
abbrev pub IsAfter : StoreValue → ℕ → (ℕ → ℕ → Option (List ℤ)) → TakenColumn → Type 0
IsAfter w tick words c =
    map (λ cell. Some cell) c.column.cells
    ≡ map (λ e. option_map (cell_after tick (words e.index c.column.kind)) (cell_of w.state.slots e c.column.kind)) (archetype_at w.layout c.archetype).entities

-- whether a column of this kind has an entity of this index
abbrev pub is_reached : List Archetype → List TakenColumn → ℕ → ℕ → Bool
is_reached layout columns index kind = list_any (λ c. has_index index (archetype_at layout c.archetype).entities && (kind == c.column.kind)) columns

-- what is written is written in the columns
abbrev pub AreReached : List Archetype → List TakenColumn → (ℕ → ℕ → Option (List ℤ)) → Type 0
AreReached layout columns words = (index kind : ℕ) (w : List ℤ) → words index kind ≡ Some w → is_reached layout columns index kind ≡ true

-- one more column that comes home adds its writes
abbrev pub ColumnsAreOverlays : Type 0
ColumnsAreOverlays = (slots : List Slot) (layout : List Archetype) (n kind tick : ℕ) (words before : ℕ → ℕ → Option (List ℤ)) (cells : List Cell) →
    IsLayoutOf slots layout → AllByRecursion (λ slot. IsRising slot.row) slots →
    map (λ cell. Some cell) cells ≡ map (λ e. option_map (cell_after tick (words e.index kind)) (cell_of slots e kind)) (archetype_at layout n).entities →
    slots_with (archetype_at layout n).entities kind cells (slots_after tick before slots) ≡ slots_after tick (also_written (archetype_at layout n).entities kind words before) slots

-- columns that come home lay their writes over the state
abbrev pub TakenAreOverlays : Type 0
TakenAreOverlays = (w : StoreValue) (tick : ℕ) (words : ℕ → ℕ → Option (List ℤ)) (columns : List TakenColumn) →
    IsLayoutOf w.state.slots w.layout → IsWorld widths w.state → AllByRecursion (IsAfter w tick words) columns →
    (all_home columns w).state ≡ with_slots (slots_after tick (written_by w.layout words columns)) w.state

-- where they have all that is written, the state is that of the overlay
abbrev pub TakenClose : Type 0
TakenClose = (w : StoreValue) (tick : ℕ) (words : ℕ → ℕ → Option (List ℤ)) (columns : List TakenColumn) →
    IsLayoutOf w.state.slots w.layout → IsWorld widths w.state → AllByRecursion (IsAfter w tick words) columns → AreReached w.layout columns words →
    (all_home columns w).state ≡ with_slots (slots_after tick words) w.state
