use Rattle.std.proofs.Common.{◌≡◌, ◌++◌, take, flat_map, string_bytes}
use Rattle.series.specs.Csv.{row_line}
use Rattle.series.proofs.csv.push_rows.Given as goal

-- those so far are written
abbrev pub invariant-loop-row : goal.invariant-loop-row
invariant-loop-row l = string_bytes l.text ≡ string_bytes l.fn.text ++ flat_map row_line (take l.row-index l.rows)
