use Rattle.std.proofs.Common.{◌≡◌, ◌++◌, take, flat_map, string_bytes}
use Rattle.series.specs.Csv.{value_text}
use Rattle.series.proofs.csv.push_values.Given as goal

-- those so far are written
abbrev pub invariant-loop-value : goal.invariant-loop-value
invariant-loop-value l = string_bytes l.text ≡ string_bytes l.fn.text ++ flat_map value_text (take l.value-index l.values)
