-- A file that is created where it is first written to.
use Rattle.std.specs.Prelude.{ℕ, Bool, List}

-- its path, and whether it was created
pub record ToCreate : Type 0 where
  pub path : List ℕ
  pub is_created : Bool
