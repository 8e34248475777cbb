-- A column without stamps.
use Rattle.std.specs.Prelude.{ℕ, ℤ, List}

-- the number of its kind, the words of each of its components, and for how many there is room
pub record ColumnWords : Type 0 where
  pub kind : ℕ
  pub words : List (List ℤ)
  pub room : ℕ
