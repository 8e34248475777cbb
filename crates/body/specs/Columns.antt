-- Columns as the definitions have them, and what writes leave of them.
use Rattle.std.specs.Prelude.{ℕ, zero, suc, ℤ, ◌<◌, ◌≡◌, Bool, List, [], ◌∷◌, Option, Some, None, slice_get}
use Rattle.model.specs.Lists.{update_at}
use Rattle.model.specs.declared.entities.Entity.{Entity}
use Rattle.model.specs.state.State.{Cell}
use Rattle.model.specs.shown.Overlay.{cell_after}

-- a column of a query: the number of its archetype, whose components they are, whether it is written, its kind, its cells, and for how many
-- there is room
pub record Column : Type 0 where
  pub archetype : ℕ
  pub entities : List Entity
  pub is_written : Bool
  pub kind : ℕ
  pub cells : List Cell
  pub room : ℕ

-- the cell at a place of a column
abbrev pub cell_in : List Column → ℕ → ℕ → Option Cell
cell_in [] j i = None
cell_in (c ∷ cs) zero i = slice_get c.cells i
cell_in (c ∷ cs) (suc j) i = cell_in cs j i

-- a column with one cell changed
abbrev pub with_cell : ℕ → (Cell → Cell) → Column → Column
with_cell place f c = record { archetype = c.archetype; entities = c.entities; is_written = c.is_written; kind = c.kind; cells = update_at place f c.cells; room = c.room }

-- a column after the writes by index and kind: those of its entities at its kind
abbrev pub cells_after : ℕ → (ℕ → ℕ → Option (List ℤ)) → ℕ → List Entity → List Cell → List Cell
cells_after tick words kind entities [] = []
cells_after tick words kind [] (c ∷ cs) = c ∷ cs
cells_after tick words kind (e ∷ es) (c ∷ cs) = cell_after tick (words e.index kind) c ∷ cells_after tick words kind es cs

abbrev pub column_after : ℕ → (ℕ → ℕ → Option (List ℤ)) → Column → Column
column_after tick words c = record { archetype = c.archetype; entities = c.entities; is_written = c.is_written; kind = c.kind; cells = cells_after tick words c.kind c.entities c.cells; room = c.room }

-- no cell was changed at a tick or later
abbrev pub AreFresh : ℕ → List Column → Type 0
AreFresh tick columns = (j i : ℕ) (c : Cell) → cell_in columns j i ≡ Some c → c.changed < tick
