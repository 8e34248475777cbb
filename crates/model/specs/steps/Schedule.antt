-- A built schedule, as data, and the tests on it. It holds no bodies.
use Rattle.std.specs.Prelude.{ℕ, Bool, List, [], get_or, Option}
use Rattle.model.specs.declared.steps.Step.{Step}
use Rattle.model.specs.Lists.{has}
use Rattle.model.specs.access.Access.{Params, no_params}
use Rattle.model.specs.access.Condition.{Condition, access_of_condition, watched_of}
use Rattle.model.specs.access.Condition.Condition.{RunOnce}

-- a system: its parameters, the systems with an edge to it, and its level
pub record ScheduledSystem : Type 0 where
  pub params : Params
  pub predecessors : List ℕ
  pub level : ℕ

-- a run condition, and the systems that it covers
pub record ScheduledCondition : Type 0 where
  pub condition : Condition
  pub covers : List ℕ

-- systems in declared order, conditions by number, how many sync points, the schedule order, for each system those with which it may be
-- ambiguous; and, of a run that records them, the kind sets that are there at its opening and after each of its sync points, by number
pub record Schedule : Type 0 where
  pub systems : List ScheduledSystem
  pub conditions : List ScheduledCondition
  pub syncs : ℕ
  pub order : List ℕ
  pub silences : List (List ℕ)
  pub sets : Option (List (List ℕ))

-- the schedule in a run that records these kind sets, or none
abbrev pub recording : Schedule → Option (List (List ℕ)) → Schedule
recording s sets = record {
  systems = s.systems;
  conditions = s.conditions;
  syncs = s.syncs;
  order = s.order;
  silences = s.silences;
  sets = sets;
}

-- a run as it is recorded: its steps, the latest first, and the kind sets at its opening and after each sync point, the first first, where
-- it records them
pub record Recorded : Type 0 where
  pub steps : List Step
  pub sets : Option (List (List ℕ))

-- the system of a number
abbrev pub system_at : Schedule → ℕ → ScheduledSystem
system_at s n = get_or s.systems n (record { params = no_params; predecessors = []; level = 0 })

-- the condition of a number
abbrev pub condition_at : Schedule → ℕ → ScheduledCondition
condition_at s c = get_or s.conditions c (record { condition = RunOnce; covers = [] })

-- the parameters of a system
abbrev pub params_of : Schedule → ℕ → Params
params_of s n = (system_at s n).params

-- the level of a system
abbrev pub level_of : Schedule → ℕ → ℕ
level_of s n = (system_at s n).level

-- whether there is an edge from one system to another
abbrev pub has_edge : Schedule → ℕ → ℕ → Bool
has_edge s m n = has m (system_at s n).predecessors

-- what a condition asks
abbrev pub condition_of : Schedule → ℕ → Condition
condition_of s c = (condition_at s c).condition

-- the access of a condition
abbrev pub access_of : Schedule → ℕ → Params
access_of s c = access_of_condition (condition_of s c)

-- whether a condition covers a system
abbrev pub covers : Schedule → ℕ → ℕ → Bool
covers s c n = has n (condition_at s c).covers

-- whether a condition asks if a resource changed
abbrev pub watches : Schedule → ℕ → ℕ → Bool
watches s c number = has number (watched_of (condition_of s c))

-- whether two systems may be ambiguous
abbrev pub is_silenced : Schedule → ℕ → ℕ → Bool
is_silenced s m n = has n (get_or s.silences m [])
