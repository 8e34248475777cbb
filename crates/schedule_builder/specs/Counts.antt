-- What a run counts down: for each system those that wait for it and how many it waits for, and for each level its systems.
use Rattle.std.specs.Prelude.{ℕ, ◌<◌, ◌≡◌, ◌↔◌, ◌==◌, Bool, true, false, List, [], length, get_or, take}
use Rattle.model.specs.Lists.{has}
use Rattle.model.specs.Counts.{count_below}
use Rattle.model.specs.steps.Schedule.{ScheduledSystem}
use Rattle.schedule_builder.specs.Rows.{system_in, IsBefore}

-- the list names just the numbers with a property, each once
pub record IsListing (P : ℕ → Type 0) (xs : List ℕ) : Type 0 where
  pub names : (m : ℕ) → (has m xs ≡ true) ↔ P m
  pub once : (i : ℕ) → i < length xs → has (get_or xs i 0) (take i xs) ≡ false

-- a system has an edge from another
abbrev pub IsAfter : List ScheduledSystem → ℕ → ℕ → Type 0
IsAfter systems n m = (m < length systems) × IsBefore systems m n

-- whether a system has an edge to another, and whether it is of a level
abbrev pub waits_for : List ScheduledSystem → ℕ → ℕ → Bool
waits_for systems n m = has m (system_in systems n).predecessors

abbrev pub is_at : List ScheduledSystem → ℕ → ℕ → Bool
is_at systems k m = (system_in systems m).level == k

-- for each system those with an edge from it, how many have an edge to it, and for each level how many have it
pub record AreCounts (systems : List ScheduledSystem) (followed : List (List ℕ)) (open_counts level_counts : List ℕ) : Type 0 where
  pub long : length followed ≡ length systems
  pub after : (n : ℕ) → n < length systems → IsListing (IsAfter systems n) (get_or followed n [])
  pub waits : (n : ℕ) → get_or open_counts n 0 ≡ count_below (waits_for systems n) (length systems)
  pub sizes : (k : ℕ) → get_or level_counts k 0 ≡ count_below (is_at systems k) (length systems)

-- the same as a word that no search looks into, since each holder of a built schedule has it at hand
unfoldable pub HasCounts : List ScheduledSystem → List (List ℕ) → List ℕ → List ℕ → Type 0
HasCounts systems followed open_counts level_counts = AreCounts systems followed open_counts level_counts
