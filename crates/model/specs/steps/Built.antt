-- What the builder gives: few enough parts, the schedule order, the levels, conditions that only read.
use Rattle.std.specs.Prelude.{ℕ, ◌<◌, ◌≤◌, true, false, ◌≡◌, List, ◌∷◌, ◌++◌, length}
use Rattle.model.specs.Lists.{has, IsIn}
use Rattle.model.specs.access.Query.{Term, writes}
use Rattle.model.specs.steps.Schedule.{Schedule, level_of, has_edge, covers, access_of}

-- what the laws of a run use of a built schedule
pub record IsBuilt (s : Schedule) : Type 0 where
  pub few_systems : length s.systems ≤ 256
  pub few_conditions : length s.conditions ≤ 512
  pub few_syncs : s.syncs ≤ 257
  pub sources : (m n : ℕ) → has_edge s m n ≡ true → m < length s.systems
  pub rising : (m n : ℕ) → has_edge s m n ≡ true → level_of s m ≤ level_of s n
  pub levels : (n : ℕ) → n < length s.systems → level_of s n < s.syncs
  pub listed : (n : ℕ) → n < length s.systems → has n s.order ≡ true
  pub known : (n : ℕ) → has n s.order ≡ true → n < length s.systems
  pub once : (front rest : List ℕ) (n : ℕ) → s.order ≡ front ++ n ∷ rest → has n front ≡ false
  pub after : (front rest : List ℕ) (n : ℕ) → s.order ≡ front ++ n ∷ rest → (m : ℕ) → has_edge s m n ≡ true → has m front ≡ true
  pub covered : (c n : ℕ) → covers s c n ≡ true → n < length s.systems
  pub reading : (c : ℕ) (query : List Term) → IsIn query (access_of s c).queries → (kind : ℕ) → writes query kind ≡ false
