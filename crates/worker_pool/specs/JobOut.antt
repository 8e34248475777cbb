-- A job that is out.
use Rattle.std.specs.Prelude.{ℕ, Bool}
use Rattle.body.specs.Seen.{Seen}

-- the number of its start, its system, with which body and view it was handed out, and whether a thread has it
pub record JobOut (B : Type 0) : Type 0 where
  pub number : ℕ
  pub system : ℕ
  pub body : B
  pub view : Seen
  pub there : Bool
