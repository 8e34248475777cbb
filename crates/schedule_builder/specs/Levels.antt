-- The levels of systems: by what they follow, and after whose commands.
use Rattle.std.specs.Prelude.{ℕ, ◌+◌, ◌<◌, ◌≤◌, ◌≡◌, ◌⊎◌, ◌==◌, ◌&&◌, Bool, true, is_some, List, [], length, map, get_or}
use Rattle.std.specs.List.{filter}
use Rattle.model.specs.Lists.{has}
use Rattle.model.specs.steps.Schedule.{ScheduledSystem, system_at, params_of}
use Rattle.cycle_search.specs.declared.order.Order.{Order}
use Rattle.schedule_builder.specs.ScheduleOrder.{schedule_of, IsEdge}

-- whether a system has commands
abbrev pub has_commands : List ScheduledSystem → ℕ → Bool
has_commands systems n = is_some (params_of (schedule_of systems []) n).spawns

-- the systems with commands that orders put before a system
abbrev pub deferring_before : List ScheduledSystem → List Order → ℕ → List ℕ
deferring_before systems orders n = map (λ (o : Order). o.first) (filter (λ (o : Order). (o.second == n) && has_commands systems o.first) orders)

-- the greatest of a number and of the levels of some systems, each with so much added
pub record IsGreatest (start : ℕ) (systems levels : List ℕ) (added level : ℕ) : Type 0 where
  pub starts : start ≤ level
  pub above : (m : ℕ) → has m systems ≡ true → get_or levels m 0 + added ≤ level
  pub attained : (level ≡ start) ⊎ ((m : ℕ) × (has m systems ≡ true) × (level ≡ get_or levels m 0 + added))

-- the level of a system is the greatest that what it follows asks: as high as each system with an edge to it, and above each with an
-- edge to it that is deferring
pub record IsLevelled (systems : List ScheduledSystem) (plain : List Order) (levels : List ℕ) (n : ℕ) : Type 0 where
  pub rises : (m : ℕ) → IsEdge systems m n → get_or levels m 0 ≤ get_or levels n 0
  pub defers : (m : ℕ) → has m (deferring_before systems plain n) ≡ true → get_or levels m 0 + 1 ≤ get_or levels n 0
  pub attained : (get_or levels n 0 ≡ 0) ⊎ (((m : ℕ) × IsEdge systems m n × (get_or levels n 0 ≡ get_or levels m 0))
      ⊎ ((m : ℕ) × (has m (deferring_before systems plain n) ≡ true) × (get_or levels n 0 ≡ get_or levels m 0 + 1)))

-- the levels of all systems
pub record AreLevels (systems : List ScheduledSystem) (plain : List Order) (levels : List ℕ) : Type 0 where
  pub long : length levels ≡ length systems
  pub each : (n : ℕ) → n < length systems → IsLevelled systems plain levels n
  pub low : (n : ℕ) → get_or levels n 0 ≤ 256

-- as many sync points as the greatest level plus one, and one where there is none
pub record AreSyncs (levels : List ℕ) (syncs : ℕ) : Type 0 where
  pub below : (n : ℕ) → n < length levels → get_or levels n 0 < syncs
  pub least : (syncs ≡ 1) ⊎ ((n : ℕ) × (n < length levels) × (syncs ≡ get_or levels n 0 + 1))

-- the same systems, each of its level
pub record AreLevelledBy (levels : List ℕ) (systems built : List ScheduledSystem) : Type 0 where
  pub long : length built ≡ length systems
  pub each : (n : ℕ) → n < length systems → system_at (schedule_of built []) n ≡ record (system_at (schedule_of systems []) n) { level = get_or levels n 0 }
