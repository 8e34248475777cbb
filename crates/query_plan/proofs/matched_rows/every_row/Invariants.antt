use Rattle.std.proofs.Common.{◌≡◌, ◌++◌, drop}
use Rattle.query_plan.specs.Places.{every_row}
use Rattle.query_plan.proofs.matched_rows.every_row.Given as goal

-- the rows so far, and those from the place on
abbrev pub invariant-loop-place : goal.invariant-loop-place
invariant-loop-place l = l.rows.items ++ every_row l.archetype l.place (drop l.place l.entities) ≡ every_row l.archetype 0 l.entities
