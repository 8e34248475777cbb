-- What a plan of a query and the columns taken for it are, by the layout of the store; and that a query may open over them.
use Rattle.std.specs.Prelude.{ℕ, suc, ◌<◌, ◌≡◌, true, List, [], ◌∷◌, length, slice_get, Option, Some}
use Rattle.std.specs.List.{AllByRecursion}
use Rattle.model.specs.state.State.{Slot}
use Rattle.model.specs.access.Query.{Term, writes}
use Rattle.column_store.specs.Order.{AreApart}
use Rattle.archetype_store.specs.Layout.{Archetype, archetype_at, IsLayoutOf}
use Rattle.query_plan.specs.declared.row.Row.{Row}
use Rattle.query_plan.specs.Standing.{IsStanding}
use Rattle.body.specs.Columns.{Column, AreFresh}
use Rattle.body.specs.Sheet.{IsPlan}
use Rattle.body.specs.SlotTable.{AreSlotsOf}

-- a column is that of a kind of an archetype: a cell for each of its entities. It is an own one where the query writes the kind
pub record IsColumnOf (terms : List Term) (layout : List Archetype) (column : Column) : Type 0 where
  pub archetype_within : column.archetype < length layout
  pub entities_are : column.entities ≡ (archetype_at layout column.archetype).entities
  pub as_many : length column.cells ≡ length column.entities
  pub own : writes terms column.kind ≡ true → column.is_written ≡ true

-- rows of entities of different indices
abbrev pub AreOfOthers : List Row → Type 0
AreOfOthers [] = Unit {0}
AreOfOthers (row ∷ rows) = AllByRecursion (λ (other : Row). row.entity.index ≡ other.entity.index → ⊥) rows × AreOfOthers rows

-- the column of a kind of an archetype is among these
pub record IsAmong (columns : List Column) (number written_kind : ℕ) : Type 0 where
  pub at : ℕ
  pub column : Column
  pub there : slice_get columns at ≡ Some column
  pub archetype_is : column.archetype ≡ number
  pub kind_is : column.kind ≡ written_kind

-- the rows and the columns of a query, as a plan and the store give them
pub record IsPlanned (tick : ℕ) (terms : List Term) (slots : List Slot) (layout : List Archetype) (rows : List Row) (columns : List Column) : Type 0 where
  pub laid : IsLayoutOf slots layout
  pub apart : AllByRecursion (λ (a : Archetype). AreApart a.entities) layout
  pub columns_are : AllByRecursion (IsColumnOf terms layout) columns
  pub unlike : (i j : ℕ) (one other : Column) → slice_get columns i ≡ Some one → slice_get columns j ≡ Some other → one.archetype ≡ other.archetype → one.kind ≡ other.kind → i ≡ j
  pub standing : AllByRecursion (IsStanding slots layout) rows
  pub others : AreOfOthers rows
  pub covered : (r : ℕ) (row : Row) → slice_get rows r ≡ Some row → (kind : ℕ) → writes terms kind ≡ true → IsAmong columns row.archetype kind
  pub fresh : AreFresh tick columns

-- a query may open over what was planned, with the table of its columns
abbrev pub PlansOpen : Type 0
PlansOpen = (tick : ℕ) (terms : List Term) (slots : List Slot) (layout : List Archetype) (tables : List (List (Option ℕ))) (rows : List Row) (columns : List Column) → IsPlanned tick terms slots layout rows columns →
    AreSlotsOf terms (suc (length layout)) columns tables → IsPlan tick terms tables rows columns
