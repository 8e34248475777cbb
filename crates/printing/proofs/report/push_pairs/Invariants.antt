use Rattle.std.proofs.Common.{◌≡◌, ◌++◌, map, take, flat_map, string_bytes}
use Rattle.printing.specs.ReportText.{pair_line}
use Rattle.printing.proofs.report.push_pairs.Given as goal

-- the pairs so far are written
abbrev pub invariant-loop-pair : goal.invariant-loop-pair
invariant-loop-pair l = string_bytes l.text ≡ string_bytes l.fn.text ++ flat_map (pair_line (map (λ name. name.now) l.names)) (take l.pair-index l.pairs)
