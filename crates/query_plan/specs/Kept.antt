-- Rows that are kept while the world goes on.
use Rattle.std.specs.Prelude.{◌≡◌, List, length}
use Rattle.std.specs.Arc.{arc_value}
use Rattle.query_plan.specs.declared.row.Row.{Row}
use Rattle.query_plan.specs.declared.kept_rows.KeptRows.{KeptRows}
use Rattle.query_plan.specs.declared.kept_rows.KeptRows.TheVariants.{All, Listed, Shared}
use Rattle.query_plan.specs.Places.{every_row}

-- the rows
abbrev pub rows_kept : KeptRows → List Row
rows_kept (All n count entities) = every_row n 0 (arc_value entities).items
rows_kept (Listed rows) = rows.items
rows_kept (Shared rows) = (arc_value rows).items

-- it is known how many there are
abbrev pub AreCounted : KeptRows → Type 0
AreCounted (All n count entities) = length (arc_value entities).items ≡ count
AreCounted (Listed rows) = Unit {0}
AreCounted (Shared rows) = Unit {0}
