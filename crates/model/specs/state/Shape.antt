-- The shape of a state: what every state of an engine is. Two states of the right shape that mean the same are equal.
use Rattle.std.specs.Prelude.{ℕ, suc, ◌<◌, ◌≤◌, false, ◌≡◌, ◌≢◌, List, [], ◌∷◌, length, Ok}
use Rattle.std.specs.List.{AllByRecursion, AllPairs}
use Rattle.model.specs.state.State.{Entity, Component, Slot, World, Event, EventQueue, Memory, State, is_living, last_tick, last_generation, most_indices, most_passed_over, resource_count, event_count, register_count}
use Rattle.model.specs.state.State.Status.{Vacant, Retired}
use Rattle.model.specs.state.Rows.{IsRising}
use Rattle.model.specs.shown.Input.{shown}
use Rattle.model.specs.shown.Outcome.{HasWidth, Outcome, IsWithin, BodyMeaning}
use Rattle.model.specs.steps.Schedule.{Schedule, params_of, ScheduledSystem, ScheduledCondition}
use Rattle.model.specs.access.Condition.{access_of_condition}
use Rattle.model.specs.runs.RunState.{RunState, memory_of_system, spawns_of, body_of}

-- a component of its kind's width, with no stamp above the clock
pub record IsComponent (widths : ℕ → ℕ) (clock : ℕ) (c : Component) : Type 0 where
  pub width : length c.cell.words ≡ widths c.kind
  pub added : c.cell.added ≤ clock
  pub changed : c.cell.changed ≤ clock

-- an index: a generation from 1 on, above 1 once it came back, the last one where it is retired; components in strictly rising
-- kinds, none unless it lives
pub record IsSlot (widths : ℕ → ℕ) (clock : ℕ) (slot : Slot) : Type 0 where
  pub least : 1 ≤ slot.generation
  pub most : slot.generation ≤ last_generation
  pub came_back : slot.status ≡ Vacant → 1 < slot.generation
  pub retired : slot.status ≡ Retired → slot.generation ≡ last_generation
  pub no_row : is_living slot.status ≡ false → slot.row ≡ []
  pub rising : IsRising slot.row
  pub components : AllByRecursion (IsComponent widths clock) slot.row

-- a world
pub record IsWorld (widths : ℕ → ℕ) (w : World) : Type 0 where
  pub slots : AllByRecursion (IsSlot widths w.clock) w.slots
  pub few : length w.slots ≤ most_indices
  pub resource_number : length w.resources ≡ resource_count
  pub resources : AllByRecursion (λ r. r.changed ≤ w.clock) w.resources
  pub clock_least : 1 ≤ w.clock
  pub clock_most : w.clock ≤ last_tick

-- events numbered one after the other, from a number up to another
abbrev pub AreNumbered : ℕ → ℕ → List Event → Type 0
AreNumbered from to [] = from ≡ to
AreNumbered from to (e ∷ es) = (e.number ≡ from) × AreNumbered (suc from) to es

-- an event queue: the kept events have the last numbers given, and the newer buffer begins at one of them or at the next
pub record IsQueue (q : EventQueue) : Type 0 where
  pub from : ℕ
  pub numbered : AreNumbered from q.next q.kept
  pub older : from ≤ q.newer
  pub newer : q.newer ≤ q.next
  pub most : q.next ≤ last_tick

-- a memory with a cursor for each reader and eight registers, its last run not above the clock
pub record IsMemory (clock : ℕ) (reads : List ℕ) (m : Memory) : Type 0 where
  pub last_run : m.last_run ≤ clock
  pub cursors : length m.cursors ≡ length reads
  pub registers : length m.registers ≡ register_count

-- such a memory for each system, and for each condition
abbrev pub AreMemoriesOfSystems : ℕ → List ScheduledSystem → List Memory → Type 0
AreMemoriesOfSystems clock [] [] = Unit {0}
AreMemoriesOfSystems clock (x ∷ xs) (m ∷ ms) = IsMemory clock x.params.reads m × AreMemoriesOfSystems clock xs ms
AreMemoriesOfSystems clock _ _ = ⊥

abbrev pub AreMemoriesOfConditions : ℕ → List ScheduledCondition → List Memory → Type 0
AreMemoriesOfConditions clock [] [] = Unit {0}
AreMemoriesOfConditions clock (x ∷ xs) (m ∷ ms) = IsMemory clock (access_of_condition x.condition).reads m × AreMemoriesOfConditions clock xs ms
AreMemoriesOfConditions clock _ _ = ⊥

-- a state of a schedule
pub record IsStateOf (widths : ℕ → ℕ) (s : Schedule) (w : State) : Type 0 where
  pub world : IsWorld widths w.world
  pub queue_number : length w.events ≡ event_count
  pub queues : AllByRecursion IsQueue w.events
  pub systems : AreMemoriesOfSystems w.world.clock s.systems w.systems
  pub conditions : AreMemoriesOfConditions w.world.clock s.conditions w.conditions
  pub passed_over : w.passed_over ≤ most_passed_over

-- a run state: a state, and commands whose words have their kinds' widths
pub record IsRunStateOf (widths : ℕ → ℕ) (s : Schedule) (run : RunState) : Type 0 where
  pub state : IsStateOf widths s run.state
  pub buffers : (n : ℕ) → AllByRecursion (HasWidth widths) (run.buffers n)

-- ---- bodies

-- what a system can be given: as many ids as it declares, none twice
pub record AreIdsFor (s : Schedule) (n : ℕ) (ids : List Entity) : Type 0 where
  pub count : length ids ≡ spawns_of s n
  pub once : AllPairs (λ a b. a ≢ b) ids

-- each body keeps within the parameters of its system, on what a state of the right shape can show it, with ids that it can be given
abbrev pub BodiesKeepWithin : (ℕ → ℕ) → Schedule → List BodyMeaning → Type 0
BodiesKeepWithin widths s bodies = (n : ℕ) (w : State) (ids : List Entity) (o : Outcome) → n < length s.systems → IsStateOf widths s w
    → AreIdsFor s n ids
    → body_of bodies n (shown (params_of s n) (memory_of_system w n) w ids) ≡ Ok o
    → IsWithin widths (params_of s n) (shown (params_of s n) (memory_of_system w n) w ids) o
