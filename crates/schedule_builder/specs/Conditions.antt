-- The run conditions of a schedule: for each system those that cover it, and for each condition the systems that conflict with it.
use Rattle.std.specs.Prelude.{ℕ, ◌<◌, ◌≡◌, ◌↔◌, true, List, [], length, get_or}
use Rattle.model.specs.Lists.{has}
use Rattle.model.specs.access.Condition.{access_of_condition}
use Rattle.model.specs.access.Condition.Condition.{RunOnce}
use Rattle.model.specs.access.Conflict.{Conflict}
use Rattle.model.specs.declarations.Hierarchy.{IsRising}
use Rattle.model.specs.steps.Schedule.{ScheduledSystem, ScheduledCondition}
use Rattle.schedule_builder.specs.Rows.{system_in, AreRows}

-- the condition of a number
abbrev pub condition_in : List ScheduledCondition → ℕ → ScheduledCondition
condition_in conditions c = get_or conditions c (record { condition = RunOnce; covers = [] })

-- a condition covers a system
abbrev pub IsCovering : List ScheduledCondition → ℕ → ℕ → Type 0
IsCovering conditions n c = has n (condition_in conditions c).covers ≡ true

-- a system conflicts with the access of a condition
abbrev pub IsClash : List ScheduledSystem → List ScheduledCondition → ℕ → ℕ → Type 0
IsClash systems conditions c m = (m < length systems) × Conflict (system_in systems m).params (access_of_condition (condition_in conditions c).condition)

-- the list has just the numbers with a property, in rising order
pub record IsRisingListing (P : ℕ → Type 0) (xs : List ℕ) : Type 0 where
  pub names : (m : ℕ) → (has m xs ≡ true) ↔ P m
  pub rising : IsRising xs

-- both for each system and each condition
pub record AreConditionRows (systems : List ScheduledSystem) (conditions : List ScheduledCondition) (asked_by clashed : List (List ℕ)) : Type 0 where
  pub long : length asked_by ≡ length systems
  pub covering : (n : ℕ) → n < length systems → IsRisingListing (IsCovering conditions n) (get_or asked_by n [])
  pub clashes : AreRows (length systems) (length conditions) (IsClash systems conditions) clashed

-- the same as a word that no search looks into, since each holder of a built schedule has it at hand
unfoldable pub HasConditionRows : List ScheduledSystem → List ScheduledCondition → List (List ℕ) → List (List ℕ) → Type 0
HasConditionRows systems conditions asked_by clashed = AreConditionRows systems conditions asked_by clashed
