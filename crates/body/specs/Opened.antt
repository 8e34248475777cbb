-- A query as it opens over a world: its columns are those of its kinds in the archetypes that it matches, and it shows what the definitions
-- show.
use Rattle.std.specs.Prelude.{ℕ, suc, ◌<◌, ◌≡◌, true, List, length, map, slice_get, Option, Some}
use Rattle.std.specs.List.{AllByRecursion}
use Rattle.kinds.specs.Components.{widths}
use Rattle.model.specs.Lists.{has}
use Rattle.model.specs.state.Shape.{IsWorld}
use Rattle.model.specs.access.Query.{Term, matches, touches, writes}
use Rattle.model.specs.shown.Input.{ShownRow, rows_of}
use Rattle.column_store.specs.Order.{AreApart}
use Rattle.archetype_store.specs.Layout.{Archetype, archetype_at, IsLayoutOf}
use Rattle.archetype_store.specs.Slot.{column_cells}
use Rattle.archetype_store.specs.Store.{StoreValue}
use Rattle.query_plan.specs.declared.row.Row.{Row}
use Rattle.query_plan.specs.Standing.{IsStanding}
use Rattle.body.specs.Apart.{IsPicked}
use Rattle.body.specs.Columns.{Column}
use Rattle.body.specs.Planned.{IsAmong}
use Rattle.body.specs.Sheet.{IsPlan, row_of}
use Rattle.body.specs.SlotTable.{AreSlotsOf}

-- a column as a query takes it of a world: one that it picks, with the world's cells. It is an own one just where the query writes the kind
pub record IsPickedOf (terms : List Term) (w : StoreValue) (column : Column) : Type 0 where
  pub picked : IsPicked terms w.layout column
  pub own : column.is_written ≡ writes terms column.kind
  pub cells_are : map (λ cell. Some cell) column.cells ≡ column_cells w.state.slots column.entities column.kind

-- the columns that a query takes of a world: all that it picks, each once
pub record ArePickedOf (terms : List Term) (w : StoreValue) (columns : List Column) : Type 0 where
  pub each : AllByRecursion (IsPickedOf terms w) columns
  pub unlike : (i j : ℕ) (one other : Column) → slice_get columns i ≡ Some one → slice_get columns j ≡ Some other → one.archetype ≡ other.archetype → one.kind ≡ other.kind → i ≡ j
  pub all : (n kind : ℕ) → matches terms (λ k. has k (archetype_at w.layout n).kinds) ≡ true → has kind (archetype_at w.layout n).kinds ≡ true → touches terms kind ≡ true → IsAmong columns n kind

-- over these columns, their table, and the rows by place, a query may open at a tick to come, and shows the rows of the definitions
abbrev pub OpensOver : Type 0
OpensOver = (tick last : ℕ) (terms : List Term) (w : StoreValue) (tables : List (List (Option ℕ))) (rows : List Row) (columns : List Column) →
    IsLayoutOf w.state.slots w.layout → IsWorld widths w.state → AllByRecursion (λ (a : Archetype). AreApart a.entities) w.layout → w.state.clock < tick →
    map (λ (row : Row). row.entity) rows ≡ map (λ (row : ShownRow). row.entity) (rows_of terms last w.state.slots) → AllByRecursion (IsStanding w.state.slots w.layout) rows →
    ArePickedOf terms w columns → AreSlotsOf terms (suc (length w.layout)) columns tables →
    IsPlan tick terms tables rows columns × (map (row_of tables columns terms) rows ≡ rows_of terms last w.state.slots)
