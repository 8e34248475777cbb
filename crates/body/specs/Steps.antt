-- What the steps of a run do to the parts of a state.
use Rattle.std.specs.Prelude.{ℕ, ◌≤◌, ◌≡◌, List, length}
use Rattle.std.specs.List.{AllByRecursion}
use Rattle.archetype_store.specs.Layout.{Archetype}
use Rattle.archetype_store.specs.Store.{StoreValue}
use Rattle.model.specs.Lists.{update_at}
use Rattle.kinds.specs.Components.{widths}
use Rattle.model.specs.state.Commands.{CommandTarget}
use Rattle.model.specs.state.State.{Slot, EventQueue, Memory, State, World, event_count, most_passed_over, register_count}
use Rattle.model.specs.state.Shape.{IsWorld, IsQueue}
use Rattle.model.specs.runs.RunState.{memory_after_run, next_tick, with_registers}
use Rattle.model.specs.shown.Outcome.{events_sent}
use Rattle.model.specs.shown.Overlay.{queues_after}
use Rattle.body.specs.Laid.{world_after}
use Rattle.body.specs.Seen.{Seen}

-- the state at another tick
abbrev pub at_clock : ℕ → State → State
at_clock clock state = record {
  world = record { slots = state.world.slots; resources = state.world.resources; clock = clock };
  events = state.events;
  systems = state.systems;
  conditions = state.conditions;
  passed_over = state.passed_over;
}

-- the state at the next tick
abbrev pub ticked : State → State
ticked state = at_clock (next_tick state) state

-- the state with the run of a system, with readers of these event kinds, at a tick noted
abbrev pub noted : ℕ → List ℕ → ℕ → State → State
noted n reads tick state = record {
  world = state.world;
  events = state.events;
  systems = update_at n (memory_after_run tick reads state.events) state.systems;
  conditions = state.conditions;
  passed_over = state.passed_over;
}

-- the state with the asking of a condition, with readers of these event kinds, at a tick noted
abbrev pub asked_at : ℕ → List ℕ → ℕ → State → State
asked_at c reads tick state = record {
  world = state.world;
  events = state.events;
  systems = state.systems;
  conditions = update_at c (memory_after_run tick reads state.events) state.conditions;
  passed_over = state.passed_over;
}

-- the state with what was written in a view of a system laid over it at a tick, and with the events sent that were emitted there
abbrev pub laid : ℕ → ℕ → Seen → State → State
laid n tick seen state = record {
  world = world_after tick seen state.world;
  events = queues_after (events_sent seen.params.writes seen.outcome.events) state.events;
  systems = update_at n (with_registers seen.outcome.registers) state.systems;
  conditions = state.conditions;
  passed_over = state.passed_over;
}

-- a state in a run: that of the definitions, and beside it how components are laid out
pub record StateValue : Type 0 where
  pub state : State
  pub layout : List Archetype

-- its world
abbrev pub store_of : StateValue → StoreValue
store_of s = record { state = s.state.world; layout = s.layout }

-- the state of a world with these events and memories, and so many commands passed over
abbrev pub counted_state : World → List EventQueue → List Memory → List Memory → ℕ → State
counted_state world events systems conditions passed_over = record { world = world; events = events; systems = systems; conditions = conditions; passed_over = passed_over }

-- with none passed over
abbrev pub state_of : World → List EventQueue → List Memory → List Memory → State
state_of world events systems conditions = counted_state world events systems conditions 0

-- the state with other slots
abbrev pub with_slots_in : List Slot → State → State
with_slots_in slots state = record {
  world = record { slots = slots; resources = state.world.resources; clock = state.world.clock };
  events = state.events;
  systems = state.systems;
  conditions = state.conditions;
  passed_over = state.passed_over;
}

-- the state with what commands leave
abbrev pub with_target : CommandTarget → State → State
with_target target state = record {
  world = record { slots = target.slots; resources = state.world.resources; clock = state.world.clock };
  events = state.events;
  systems = state.systems;
  conditions = state.conditions;
  passed_over = target.passed_over;
}

-- what commands change of a state
abbrev pub target_in : State → CommandTarget
target_in state = record { slots = state.world.slots; passed_over = state.passed_over }

-- a memory whose last run isn't above the clock, with its registers
pub record IsMemoryAt (clock : ℕ) (m : Memory) : Type 0 where
  pub last_run : m.last_run ≤ clock
  pub registers : length m.registers ≡ register_count

abbrev pub IsInTime : ℕ → List Memory → Type 0
IsInTime clock memories = AllByRecursion (IsMemoryAt clock) memories

-- what holds of the memories of every state: no last run of a system or condition is above the clock, and each has its registers
pub record AreInTime (clock : ℕ) (systems conditions : List Memory) : Type 0 where
  pub systems_in : IsInTime clock systems
  pub conditions_in : IsInTime clock conditions

-- what holds of the parts of every state: that of its memories, no more commands are counted than can be, and the plans that are kept hold over
-- these forms of its layout
pub record ArePartsOf (clock : ℕ) (systems conditions : List Memory) (passed_over : ℕ) (planned forms : List Archetype) : Type 0 where
  pub in_time : AreInTime clock systems conditions
  pub counted : passed_over ≤ most_passed_over
  pub planned_is : planned ≡ forms

-- what holds of every state of an engine, whatever the schedule
pub record HasShape (state : State) : Type 0 where
  pub world : IsWorld widths state.world
  pub queue_number : length state.events ≡ event_count
  pub queues : AllByRecursion IsQueue state.events
  pub memories : AreInTime state.world.clock state.systems state.conditions
  pub passed_over : state.passed_over ≤ most_passed_over
