-- A column as its cells.
use Rattle.std.specs.Prelude.{ℕ, ℤ, List, [], ◌∷◌}
use Rattle.change_ticks.specs.declared.stamp.Stamp.{Stamp}
use Rattle.model.specs.state.State.{Cell}

-- a column: the number of its kind, its cells, and for how many there is room
pub record ColumnCells : Type 0 where
  pub kind : ℕ
  pub cells : List Cell
  pub room : ℕ

-- the cell of these words with this stamp
abbrev pub cell_of : List ℤ → Stamp → Cell
cell_of words stamp = record { words = words; added = stamp.added; changed = stamp.changed }

-- cells of words and stamps, one of each for a cell
abbrev pub cells_of : List (List ℤ) → List Stamp → List Cell
cells_of [] stamps = []
cells_of (w ∷ ws) [] = []
cells_of (w ∷ ws) (s ∷ ss) = cell_of w s ∷ cells_of ws ss
