-- For each system of a schedule the set of those that it waits for, and of those that it conflicts with; and that none conflicts
-- with itself.
use Rattle.std.specs.Prelude.{ℕ, ◌+◌, ◌/◌, ◌<◌, ◌≡◌, ◌↔◌, true, List, [], length, get_or}
use Rattle.number_set.specs.Members.{contains}
use Rattle.model.specs.Lists.{has}
use Rattle.model.specs.access.Access.{no_params}
use Rattle.model.specs.access.Conflict.{Conflict}
use Rattle.model.specs.access.SelfConflict.{ConflictWithin}
use Rattle.model.specs.steps.Schedule.{ScheduledSystem}

-- the system of a number
abbrev pub system_in : List ScheduledSystem → ℕ → ScheduledSystem
system_in systems n = get_or systems n (record { params = no_params; predecessors = []; level = 0 })

-- a system has an edge to another
abbrev pub IsBefore : List ScheduledSystem → ℕ → ℕ → Type 0
IsBefore systems n m = has m (system_in systems n).predecessors ≡ true

-- a system conflicts with another
abbrev pub IsRival : List ScheduledSystem → ℕ → ℕ → Type 0
IsRival systems n m = (m < length systems) × Conflict (system_in systems m).params (system_in systems n).params

-- the set has room for all systems, and its members are those with a property
pub record IsRow (count : ℕ) (P : ℕ → Type 0) (row : List ℕ) : Type 0 where
  pub room : length row ≡ count / 64 + 1
  pub members : (m : ℕ) → (contains row m ≡ true) ↔ P m

-- such a set for each of the first systems
pub record AreRows (count rows_made : ℕ) (P : ℕ → ℕ → Type 0) (rows : List (List ℕ)) : Type 0 where
  pub long : length rows ≡ rows_made
  pub each : (n : ℕ) → n < rows_made → IsRow count (P n) (get_or rows n [])

-- both for each system
pub record HasRows (systems : List ScheduledSystem) (waited met : List (List ℕ)) : Type 0 where
  pub before : AreRows (length systems) (length systems) (IsBefore systems) waited
  pub rivals : AreRows (length systems) (length systems) (IsRival systems) met

-- no system's parameters conflict among themselves
pub record AreApart (systems : List ScheduledSystem) : Type 0 where
  pub apart : (n : ℕ) → n < length systems → ConflictWithin (system_in systems n).params → ⊥
