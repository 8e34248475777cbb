use Rattle.std.proofs.Common.{◌≡◌, ℕ, ◌<◌, length, [], get_or, pos, map}
use Rattle.kinds.specs.Res.{every_res, res_name}
use Rattle.toml.specs.View.{table_view}
use Rattle.program_file.specs.Keys.{HasInteger}
use Rattle.program_file.proofs.program_file.values_of.Given as goal

-- the values so far
abbrev pub invariant-loop-number : goal.invariant-loop-number
invariant-loop-number l = (length l.values ≡ 8) × ((k : ℕ) → k < l.number → HasInteger (get_or (map res_name every_res) k []) (get_or l.values k (pos 0)) (table_view l.table))
