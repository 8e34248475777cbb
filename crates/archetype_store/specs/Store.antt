-- What contracts see of a store, and what its calls change.
use Rattle.std.specs.Prelude.{ℕ, ◌≤◌, true, ℤ, pos, List, [], replicate, Some}
use Rattle.model.specs.Lists.{map_index, update_at}
use Rattle.model.specs.declared.entities.Entity.{Entity}
use Rattle.model.specs.state.Commands.{with_row}
use Rattle.model.specs.state.State.{Cell, Slot, World, resource_count}
use Rattle.model.specs.state.Loaded.{resource_given}
use Rattle.model.specs.shown.Overlay.{resource_after}
use Rattle.archetype_store.specs.Layout.{Archetype, archetype_at, with_home}
use Rattle.archetype_store.specs.Storage.{cell_for, row_with}
use Rattle.change_ticks.specs.declared.stamp.Stamp.{Stamp}

-- a store: its state, and beside it the archetypes that have entities
pub record StoreValue : Type 0 where
  pub state : World
  pub layout : List Archetype

-- the world without entities, at a clock: each resource is 0 and was changed at tick 1
abbrev pub empty_world : ℕ → World
empty_world clock = record { slots = []; resources = replicate resource_count (resource_given (pos 0)); clock = clock }

-- the world with its slots changed
abbrev pub with_slots : (List Slot → List Slot) → World → World
with_slots f w = record { slots = f w.slots; resources = w.resources; clock = w.clock }

-- the slots with the cells of a column: each entity's cell of the kind is the one beside it
abbrev pub slots_with : List Entity → ℕ → List Cell → List Slot → List Slot
slots_with entities kind cells slots =
    map_index (λ i slot. with_row (row_with kind (cell_for (record { index = i; generation = slot.generation }) entities cells)) slot) slots

-- the store with a column home again, of these cells
abbrev pub homed_in : StoreValue → ℕ → ℕ → List Cell → StoreValue
homed_in w n kind cells =
    record { state = with_slots (slots_with (archetype_at w.layout n).entities kind cells) w.state; layout = with_home true n kind w.layout }

-- stamps that aren't above a clock
pub record IsPast (clock : ℕ) (cell : Cell) : Type 0 where
  pub added : cell.added ≤ clock
  pub changed : cell.changed ≤ clock

-- the world with one slot changed
abbrev pub with_slot : ℕ → (Slot → Slot) → World → World
with_slot index f w = with_slots (update_at index f) w

-- the world with a resource written at a tick
abbrev pub with_resource : ℕ → ℤ → ℕ → World → World
with_resource number value tick w =
    record { slots = w.slots; resources = update_at number (resource_after tick (Some value)) w.resources; clock = w.clock }

-- the world at another clock
abbrev pub at_clock : ℕ → World → World
at_clock clock w = record { slots = w.slots; resources = w.resources; clock = clock }

-- the stamps of a cell
abbrev pub stamp_of : Cell → Stamp
stamp_of c = record { added = c.added; changed = c.changed }
