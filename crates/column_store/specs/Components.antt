-- A row of a table as the components of its entity.
use Rattle.std.specs.Prelude.{◌≡◌, ℕ, ℤ, List, [], ◌∷◌, Option, Some, None, option_map}
use Rattle.model.specs.Lists.{with_at}
use Rattle.model.specs.state.State.{Cell, Component}
use Rattle.model.specs.state.Rows.{cell_at, IsRising}
use Rattle.model.specs.shown.Overlay.{row_after}
use Rattle.column_store.specs.Cells.{changed_cell}
use Rattle.column_store.specs.Kinds.{AreBelow}
use Rattle.column_store.specs.Table.{TableRow, cell_of_kind, with_cell_at}

-- the components that cells of these kinds are, those of the columns that are at home
abbrev pub components_in : List ℕ → List (Option Cell) → List Component
components_in [] cells = []
components_in (k ∷ ks) [] = []
components_in (k ∷ ks) (None ∷ cells) = components_in ks cells
components_in (k ∷ ks) (Some cell ∷ cells) = record { kind = k; cell = cell } ∷ components_in ks cells

-- the components of a row
abbrev pub components_of : List ℕ → TableRow → List Component
components_of kinds row = components_in kinds row.cells

-- they are in strictly rising kinds
abbrev pub ComponentsRise : Type 0
ComponentsRise = (kinds : List ℕ) (row : TableRow) → AreBelow kinds → IsRising (components_of kinds row)

-- the row has the cell of a kind that its components have
abbrev pub CellsAreTheirs : Type 0
CellsAreTheirs = (kinds : List ℕ) (row : TableRow) (kind : ℕ) → AreBelow kinds → cell_at (components_of kinds row) kind ≡ cell_of_kind kinds kind row

-- a write of a cell is a write of the component
abbrev pub WritesAreTheirs : Type 0
WritesAreTheirs = (kinds : List ℕ) (row : TableRow) (kind : ℕ) (words : List ℤ) (tick : ℕ) → AreBelow kinds →
    components_of kinds (with_cell_at kinds kind (option_map (changed_cell words tick)) row) ≡ row_after tick (with_at kind (Some words) (λ _. None)) (components_of kinds row)
