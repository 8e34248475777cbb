-- The state inside a run, and what the opening and each step do to it. Each step is a test beside a total function.
use Rattle.std.specs.Prelude.{ℕ, suc, ℤ, Bool, cond, nat_lt, ◌==◌, ◌&&◌, List, [], ◌∷◌, map, flat_map, get_or, filter, Option, None, Result, Ok, Err}
use Rattle.std.specs.Option.{is_some, unwrap_or}
use Rattle.model.specs.Lists.{update_at, with_at, provided}
use Rattle.model.specs.state.State.{Entity, EventQueue, Memory, State, no_memory, last_tick}
use Rattle.model.specs.state.Events.{updated_queue}
use Rattle.model.specs.shown.Input.{Shown, shown, end_cursors}
use Rattle.model.specs.shown.Outcome.{Command, Outcome, BodyMeaning, words_written, value_written, events_sent}
use Rattle.model.specs.shown.Overlay.{slots_after, resources_after, queues_after, has_event_numbers}
use Rattle.model.specs.access.Condition.{Asked, asked, holds}
use Rattle.model.specs.steps.Schedule.{Schedule, params_of, condition_of, access_of, level_of}
use Rattle.model.specs.state.Ids.{has_ids_for_each, ids_of_each, grant_each}
use Rattle.model.specs.state.Commands.{CommandTarget, apply_buffer, release}

-- the state inside a run: beside the state the commands that finished systems left, and the ids that systems were granted, by system
pub record RunState : Type 0 where
  pub state : State
  pub buffers : ℕ → List Command
  pub grants : ℕ → List Entity

-- a system that runs: the tick of its start, and what it was shown
pub record RunningSystem : Type 0 where
  pub system : ℕ
  pub tick : ℕ
  pub shown : Shown

-- the run state of a state with no commands and no grants
abbrev pub between : State → RunState
between state = record { state = state; buffers = λ n. []; grants = λ n. [] }

-- whether a state has a next tick
abbrev pub has_tick : State → Bool
has_tick state = nat_lt state.world.clock last_tick

-- the next tick
abbrev pub next_tick : State → ℕ
next_tick state = suc state.world.clock

-- the memory of a system, and of a condition
abbrev pub memory_of_system : State → ℕ → Memory
memory_of_system state n = get_or state.systems n no_memory

abbrev pub memory_of_condition : State → ℕ → Memory
memory_of_condition state c = get_or state.conditions c no_memory

-- ---- the opening of a run

-- the state at the next tick, with every event queue updated
abbrev pub opening : State → State
opening state = record {
  world = record state.world { clock = next_tick state };
  events = map updated_queue state.events;
  systems = state.systems;
  conditions = state.conditions;
  passed_over = state.passed_over;
}

-- ---- the ids of a level

-- how many ids a system is granted
abbrev pub spawns_of : Schedule → ℕ → ℕ
spawns_of s n = unwrap_or (params_of s n).spawns 0

-- the systems of a level, in schedule order
abbrev pub systems_of_level : Schedule → ℕ → List ℕ
systems_of_level s k = filter (λ n. level_of s n == k) s.order

-- those of them that have commands
abbrev pub spawners_of_level : Schedule → ℕ → List ℕ
spawners_of_level s k = filter (λ n. is_some (params_of s n).spawns) (systems_of_level s k)

-- how many ids each of these is granted
abbrev pub counts_of_level : Schedule → ℕ → List ℕ
counts_of_level s k = map (spawns_of s) (spawners_of_level s k)

-- a map by number with these values at these numbers
abbrev pub with_each : {A : Type 0} → List ℕ → List A → (ℕ → A) → ℕ → A
with_each [] xs f = f
with_each (n ∷ ns) [] f = f
with_each (n ∷ ns) (x ∷ xs) f = with_each ns xs (with_at n x f)

-- whether there are ids for a level
unfoldable pub has_ids_for_level : Schedule → ℕ → RunState → Bool
has_ids_for_level s k run = has_ids_for_each (counts_of_level s k) run.state.world.slots

-- the run state after the grant for a level: its systems with commands, in schedule order, each take the least vacant indices at their
-- generations
unfoldable pub after_grant : Schedule → ℕ → RunState → RunState
after_grant s k run = record {
  state = record {
    world = record {
      slots = grant_each (counts_of_level s k) run.state.world.slots;
      resources = run.state.world.resources;
      clock = run.state.world.clock;
    };
    events = run.state.events;
    systems = run.state.systems;
    conditions = run.state.conditions;
    passed_over = run.state.passed_over;
  };
  buffers = run.buffers;
  grants = with_each (spawners_of_level s k) (ids_of_each (counts_of_level s k) run.state.world.slots) run.grants;
}

-- ---- where a run opens

-- whether a run has the ids of its opening: those for level 0
unfoldable pub has_ids_to_open : Schedule → State → Bool
has_ids_to_open s state = has_ids_for_level s 0 (between (opening state))

-- whether a run can open: there are a next tick, and the ids for level 0
unfoldable pub can_open : Schedule → State → Bool
can_open s state = has_tick state && has_ids_to_open s state

-- the run state after the opening: the ids for level 0 are granted
unfoldable pub after_opening : Schedule → State → RunState
after_opening s state = after_grant s 0 (between (opening state))

-- the opening of a run, where it can open
abbrev pub begin_run : Schedule → State → Option RunState
begin_run s state = provided (can_open s state) (after_opening s state)

-- ---- a start

-- the memory of who starts or is asked at a tick: its last run is the tick, its cursors are at the end
abbrev pub memory_after_run : ℕ → List ℕ → List EventQueue → Memory → Memory
memory_after_run tick reads queues memory = record { last_run = tick; cursors = end_cursors queues reads; registers = memory.registers }

-- whether a system can start: there is a next tick
abbrev pub can_start : RunState → Bool
can_start run = has_tick run.state

-- the system as it runs from its start on
unfoldable pub started_system : Schedule → ℕ → RunState → RunningSystem
started_system s n run = record {
  system = n;
  tick = next_tick run.state;
  shown = shown (params_of s n) (memory_of_system run.state n) run.state (run.grants n);
}

-- the run state after a start
unfoldable pub after_start : Schedule → ℕ → RunState → RunState
after_start s n run = record {
  state = record {
    world = record run.state.world { clock = next_tick run.state };
    events = run.state.events;
    systems = update_at n (memory_after_run (next_tick run.state) (params_of s n).reads run.state.events) run.state.systems;
    conditions = run.state.conditions;
    passed_over = run.state.passed_over;
  };
  buffers = run.buffers;
  grants = run.grants;
}

-- ---- a finish

-- whether the events of an outcome get numbers
unfoldable pub can_finish : Schedule → ℕ → Outcome → RunState → Bool
can_finish s n outcome run = has_event_numbers (events_sent (params_of s n).writes outcome.events) run.state.events

-- a memory with its registers replaced
abbrev pub with_registers : List ℤ → Memory → Memory
with_registers registers memory = record { last_run = memory.last_run; cursors = memory.cursors; registers = registers }

-- the run state with an outcome of a running system laid over it, at the tick of its start
unfoldable pub overlaid : Schedule → RunningSystem → Outcome → RunState → RunState
overlaid s p outcome run = record {
  state = record {
    world = record {
      slots = slots_after p.tick (words_written (params_of s p.system).queries p.shown.rows outcome.cells) run.state.world.slots;
      resources = resources_after p.tick (value_written (params_of s p.system).res_mut outcome.res_mut) run.state.world.resources;
      clock = run.state.world.clock;
    };
    events = queues_after (events_sent (params_of s p.system).writes outcome.events) run.state.events;
    systems = update_at p.system (with_registers outcome.registers) run.state.systems;
    conditions = run.state.conditions;
    passed_over = run.state.passed_over;
  };
  buffers = with_at p.system outcome.commands run.buffers;
  grants = run.grants;
}

-- what a body answered, laid over the run state: where it is an outcome, and its events get numbers
abbrev pub finish_with : Schedule → Result Outcome ℕ → RunningSystem → RunState → Option RunState
finish_with s (Err refusal) p run = None
finish_with s (Ok outcome) p run = provided (can_finish s p.system outcome run) (overlaid s p outcome run)

-- the meaning of the body of a system. A system past the end refuses
abbrev pub body_of : List BodyMeaning → ℕ → BodyMeaning
body_of bodies n = get_or bodies n (λ shown. Err 0)

-- the finish of a running system: its body answers from what the system was shown
abbrev pub finish : Schedule → List BodyMeaning → RunningSystem → RunState → Option RunState
finish s bodies p run = finish_with s (body_of bodies p.system p.shown) p run

-- ---- a condition

-- whether a condition can be asked: there is a next tick
abbrev pub can_ask : RunState → Bool
can_ask run = has_tick run.state

-- what a condition is asked about
unfoldable pub asked_of : Schedule → ℕ → RunState → Asked
asked_of s c run = asked (condition_of s c) (memory_of_condition run.state c).last_run (memory_of_condition run.state c).cursors run.state

-- what a condition answers: its meaning on the state
unfoldable pub answer_of : Schedule → ℕ → RunState → Bool
answer_of s c run = holds (condition_of s c) (memory_of_condition run.state c).last_run (memory_of_condition run.state c).cursors run.state

-- the run state after a condition was asked
unfoldable pub after_condition : Schedule → ℕ → RunState → RunState
after_condition s c run = record {
  state = record {
    world = record run.state.world { clock = next_tick run.state };
    events = run.state.events;
    systems = run.state.systems;
    conditions = update_at c (memory_after_run (next_tick run.state) (access_of s c).reads run.state.events) run.state.conditions;
    passed_over = run.state.passed_over;
  };
  buffers = run.buffers;
  grants = run.grants;
}

-- ---- a sync point

-- the commands of a level, by system in schedule order, then in order of issue
abbrev pub commands_of_level : Schedule → ℕ → RunState → List Command
commands_of_level s k run = flat_map run.buffers (systems_of_level s k)

-- the ids granted to systems of a level
abbrev pub ids_of_level : Schedule → ℕ → RunState → List Entity
ids_of_level s k run = flat_map run.grants (systems_of_level s k)

-- a map by system with nothing at the systems of a level
abbrev pub without_level : {A : Type 0} → Schedule → ℕ → (ℕ → List A) → ℕ → List A
without_level s k f n = cond (level_of s n == k) [] (f n)

-- what the commands of a level leave
abbrev pub commands_applied : Schedule → ℕ → RunState → CommandTarget
commands_applied s k run = apply_buffer (next_tick run.state)
    (record { slots = run.state.world.slots; passed_over = run.state.passed_over }) (commands_of_level s k run)

-- the run state after the commands of level k: they are applied, then the ids of the level that were not spawned are freed
unfoldable pub after_commands : Schedule → ℕ → RunState → RunState
after_commands s k run = record {
  state = record {
    world = record {
      slots = release (ids_of_level s k run) (commands_applied s k run).slots;
      resources = run.state.world.resources;
      clock = next_tick run.state;
    };
    events = run.state.events;
    systems = run.state.systems;
    conditions = run.state.conditions;
    passed_over = (commands_applied s k run).passed_over;
  };
  buffers = without_level s k run.buffers;
  grants = without_level s k run.grants;
}

-- whether sync point k has its ids: those for the level above it
unfoldable pub has_ids_to_sync : Schedule → ℕ → RunState → Bool
has_ids_to_sync s k run = has_ids_for_level s (suc k) (after_commands s k run)

-- whether a sync point can be done: there are a next tick, and the ids for the level above it
unfoldable pub can_sync : Schedule → ℕ → RunState → Bool
can_sync s k run = has_tick run.state && has_ids_to_sync s k run

-- the run state after sync point k: the commands of its level are applied, the ids of its level that were not spawned are freed, and
-- then the ids for the level above it are granted
unfoldable pub after_sync : Schedule → ℕ → RunState → RunState
after_sync s k run = after_grant s (suc k) (after_commands s k run)
