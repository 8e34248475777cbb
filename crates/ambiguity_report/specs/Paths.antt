-- The paths of edges at a system: where they lead from it, and from where they lead to it.
use Rattle.std.specs.Prelude.{ℕ, ◌<◌, ◌≡◌, ◌↔◌, Bool, true, false, List, length, get_or}
use Rattle.std.specs.List.{HoldsAt}
use Rattle.model.specs.steps.Schedule.{Schedule}
use Rattle.model.specs.steps.Ambiguity.{Reaches}
use Rattle.ambiguity_report.specs.declared.before.Paths.{Paths}

-- a mark for each system, true exactly where a path of edges leads to it from the first
pub record AreReached (s : Schedule) (first : ℕ) (reached : List Bool) : Type 0 where
  pub marked : (n : ℕ) → n < length s.systems → (get_or reached n false ≡ true) ↔ Reaches s first n

-- a mark for each system, true exactly where a path of edges leads from it to the last
pub record AreReaching (s : Schedule) (last : ℕ) (reaching : List Bool) : Type 0 where
  pub marked : (n : ℕ) → n < length s.systems → (get_or reaching n false ≡ true) ↔ Reaches s n last

-- the paths at a system
pub record ArePaths (s : Schedule) (n : ℕ) (paths : Paths) : Type 0 where
  pub reached : AreReached s n paths.reached
  pub reaching : AreReaching s n paths.reaching

-- those of each of the first so many systems
pub record AreAllPaths (s : Schedule) (count : ℕ) (all : List Paths) : Type 0 where
  pub long : length all ≡ count
  pub each : (n : ℕ) → n < count → HoldsAt (ArePaths s n) all n
