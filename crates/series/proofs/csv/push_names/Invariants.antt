use Rattle.std.proofs.Common.{◌≡◌, ◌++◌, map, take, flat_map, string_bytes}
use Rattle.series.specs.Csv.{field_text}
use Rattle.series.proofs.csv.push_names.Given as goal

-- those so far are written
abbrev pub invariant-loop-name : goal.invariant-loop-name
invariant-loop-name l = string_bytes l.text ≡ string_bytes l.fn.text ++ flat_map field_text (map (λ name. name.now) (take l.name-index l.names))
