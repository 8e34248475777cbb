use Rattle.std.proofs.Common.{◌≡◌, take, flat_map, string_bytes}
use Rattle.model.specs.state.Rows.{row_at}
use Rattle.query_plan.specs.declared.row.Row.{Row}
use Rattle.state_lines.specs.Fetched.{line_of_row}
use Rattle.state_lines.proofs.rows.lines_of_query.Given as goal

-- the rows so far are written
abbrev pub invariant-loop-row : goal.invariant-loop-row
invariant-loop-row l = string_bytes l.text ≡ flat_map (λ (row : Row). line_of_row l.query row.entity (row_at l.world.state.slots row.entity.index)) (take l.row-index l.row-items)
