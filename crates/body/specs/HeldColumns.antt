-- The columns and slots of a query as the definitions have them.
use Rattle.std.specs.Prelude.{ℕ, Bool, true, false, List, Option}
use Rattle.std.specs.Arc.{arc_value}
use Rattle.column_store.specs.Column.{ColumnCells}
use Rattle.archetype_store.specs.Layout.{archetype_at}
use Rattle.body.specs.declared.view_column.ColumnAccess.{ColumnAccess}
use Rattle.body.specs.declared.view_column.ColumnAccess.TheVariants.{Written, Read}
use Rattle.body.specs.declared.view_column.ViewColumn.{ViewColumn}
use Rattle.body.specs.declared.view_query.ColumnIndex.{ColumnIndex}
use Rattle.body.specs.Columns.{Column}

-- the column
abbrev pub column_in : ColumnAccess → ColumnCells
column_in (Written column) = column
column_in (Read shared) = arc_value shared

-- whether it is written
abbrev pub is_own : ColumnAccess → Bool
is_own (Written column) = true
is_own (Read shared) = false

abbrev pub held_seen : ViewColumn → Column
held_seen h = record { archetype = h.archetype; entities = (archetype_at h.world.value.layout h.archetype).entities; is_written = is_own h.cells; kind = (column_in h.cells).kind; cells = (column_in h.cells).cells; room = (column_in h.cells).room }

-- the number of the column of each kind
abbrev pub slots_seen : ColumnIndex → List (Option ℕ)
slots_seen s = s.columns
