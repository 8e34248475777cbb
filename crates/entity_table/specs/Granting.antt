-- The lists that granted ids come into.
use Rattle.std.specs.Prelude.{ℕ, ◌≡◌, ◌<◌, ◌≤◌, List, [], length, get_or, Vec, vec_capacity}
use Rattle.std.specs.declared.alloc.Global.{Global}
use Rattle.model.specs.declared.entities.Entity.{Entity}

-- a list for each count, from this place on empty and with room for so many ids
pub record AreRoomy (from : ℕ) (counts : List ℕ) (lists : List (Vec Entity Global)) : Type 0 where
  pub many : length lists ≡ length counts
  pub empty : (k : ℕ) (d : Vec Entity Global) → from ≤ k → k < length counts → (get_or lists k d).items ≡ []
  pub room : (k : ℕ) (d : Vec Entity Global) → from ≤ k → k < length counts → get_or counts k 0 ≤ vec_capacity (get_or lists k d)
