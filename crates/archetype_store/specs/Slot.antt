-- What is known of an index.
use Rattle.std.specs.Prelude.{ℕ, cond, not, ◌&&◌, List, map, Option, Some, None}
use Rattle.model.specs.Lists.{is_there}
use Rattle.model.specs.declared.entities.Entity.{Entity}
use Rattle.model.specs.state.State.{Cell, Slot, Status, is_living}
use Rattle.model.specs.state.Rows.{cell_at, row_at}
use Rattle.model.specs.state.Commands.{is_alive}

-- an index without its row
pub record SlotValue : Type 0 where
  pub generation : ℕ
  pub status : Status

abbrev pub value_of_slot : Slot → SlotValue
value_of_slot slot = record { generation = slot.generation; status = slot.status }

-- the cell of a kind of an entity that lives
abbrev pub cell_of : List Slot → Entity → ℕ → Option Cell
cell_of slots e kind = cond (is_alive slots e) (cell_at (row_at slots e.index) kind) None

-- the cells of a kind of these entities
abbrev pub column_cells : List Slot → List Entity → ℕ → List (Option Cell)
column_cells slots entities kind = map (λ e. cell_of slots e kind) entities

-- the entity of an index whose slot lives without components
abbrev pub bare_of : ℕ → Slot → Option Entity
bare_of index slot = cond (is_living slot.status && not (is_there slot.row)) (Some (record { index = index; generation = slot.generation })) None
