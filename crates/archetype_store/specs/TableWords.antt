-- Tables by the words of their kinds.
use Rattle.std.specs.Prelude.{ℕ, List, nat_eq, Option}
use Rattle.std.specs.Map.{lookup}

-- the table of a word
abbrev pub told_table : List (ℕ × ℕ) → ℕ → Option ℕ
told_table tables word = lookup (nat_eq word) tables
