-- A run state keeps its shape: the opening and each step, a finish where the outcome keeps within its parameters.
use Rattle.std.proofs.Common.{◌≡◌, ℕ, suc, ◌≤◌, ℤ, true, refl, ◌∙◌, List, [], ◌∷◌, length, Option, Some, None, ◌==◌, arith, ltb-true}
use Rattle.std.proofs.lemmas.Bool.{and_parts, cond_both}
use Rattle.std.proofs.lemmas.List.{length-map}
use Rattle.std.specs.List.{AllByRecursion}
use Rattle.model.specs.state.State.{Slot, Resource, World, State, last_tick, most_indices}
use Rattle.model.specs.state.Events.{updated_queue}
use Rattle.model.specs.access.Access.{Params}
use Rattle.model.specs.shown.Outcome.{HasWidth, Outcome, IsWithin, words_written, value_written, events_sent}
use Rattle.model.specs.shown.Overlay.{resource_after, resources_after, slots_after}
use Rattle.model.specs.steps.Schedule.{Schedule, params_of, access_of, level_of}
use Rattle.model.specs.state.Ids.{has_ids, grant, has_ids_for_each, grant_each}
use Rattle.model.specs.runs.RunState.{RunState, RunningSystem, between, has_tick, opening, counts_of_level, has_ids_for_level, after_grant, has_ids_to_open, can_open, after_opening, memory_after_run, can_start, after_start, can_finish, with_registers, overlaid, after_condition, systems_of_level, commands_of_level, ids_of_level, commands_applied, after_commands, has_ids_to_sync, can_sync, after_sync}
use Rattle.model.specs.state.Shape.{IsSlot, IsWorld, IsQueue, IsStateOf, IsRunStateOf}
use Rattle.model.proofs.lists.Lists.{length-map_index}
use Rattle.model.proofs.lists.Each.{each-weaker, each-map, each-map_index, each-flat_map}
use Rattle.model.proofs.shape.Slots.{slots-later, slots-after, length-slots_after, slots-release, length-release, slots-grant, length-grant}
use Rattle.model.proofs.shape.Commands.{IsTarget, target-buffer}
use Rattle.model.proofs.shape.Queues.{queues-after, length-queues_after, queue-updated}
use Rattle.model.proofs.shape.Outcomes.{width-written}
use Rattle.model.proofs.shape.Memories.{memory-run, memory-registers, systems-later, conditions-later, systems-changed, conditions-changed}

-- ---- parts

-- a state that has a next tick
pub tick-room : (w : State) → has_tick w ≡ true → suc w.world.clock ≤ last_tick
tick-room w e = ltb-true w.world.clock last_tick e

-- resources at a later clock
pub resources-later : (clock later : ℕ) → clock ≤ later → (rs : List Resource) → AllByRecursion (λ r. r.changed ≤ clock) rs → AllByRecursion (λ r. r.changed ≤ later) rs
resources-later clock later le rs h = each-weaker (λ r. r.changed ≤ clock) (λ r. r.changed ≤ later) (λ r below. omega arith) rs h

-- a resource after a write
pub resource-after : (clock tick : ℕ) → tick ≤ clock → (value : Option ℤ) (r : Resource) → r.changed ≤ clock → (resource_after tick value r).changed ≤ clock
resource-after clock tick le None r h = h
resource-after clock tick le (Some v) r h = le

-- the resources after writes
pub resources-after : (clock tick : ℕ) → tick ≤ clock → (values : ℕ → Option ℤ) (rs : List Resource) → AllByRecursion (λ r. r.changed ≤ clock) rs
    → AllByRecursion (λ r. r.changed ≤ clock) (resources_after tick values rs)
unfolding resources_after
resources-after clock tick le values rs h = each-map_index (λ r. r.changed ≤ clock) (λ r. r.changed ≤ clock) (λ number. resource_after tick (values number))
    (λ number. resource-after clock tick le (values number)) rs h

-- writes leave as many resources
pub length-resources_after : (tick : ℕ) (values : ℕ → Option ℤ) (rs : List Resource) → length (resources_after tick values rs) ≡ length rs
unfolding resources_after
length-resources_after tick values rs = length-map_index (λ number. resource_after tick (values number)) rs

-- a world at its next tick
world-tick : (widths : ℕ → ℕ) (w : World) → suc w.clock ≤ last_tick → IsWorld widths w → IsWorld widths (record w { clock = suc w.clock })
world-tick widths w room h = record {
  slots = slots-later widths w.clock (suc w.clock) (omega arith) w.slots h.slots;
  few = h.few;
  resource_number = h.resource_number;
  resources = resources-later w.clock (suc w.clock) (omega arith) w.resources h.resources;
  clock_least = omega arith;
  clock_most = room;
}

-- ---- the opening

-- the opening of a run
pub state-opening : (widths : ℕ → ℕ) (s : Schedule) (w : State) → has_tick w ≡ true → IsStateOf widths s w → IsStateOf widths s (opening w)
state-opening widths s w room h = record {
  world = world-tick widths w.world (tick-room w room) h.world;
  queue_number = length-map w.events updated_queue ∙ h.queue_number;
  queues = each-map IsQueue IsQueue updated_queue queue-updated w.events h.queues;
  systems = systems-later w.world.clock (suc w.world.clock) (omega arith) s.systems w.systems h.systems;
  conditions = conditions-later w.world.clock (suc w.world.clock) (omega arith) s.conditions w.conditions h.conditions;
  passed_over = h.passed_over;
}

-- a run state without commands
pub run-between : (widths : ℕ → ℕ) (s : Schedule) (w : State) → IsStateOf widths s w → IsRunStateOf widths s (between w)
run-between widths s w h = record { state = h; buffers = λ n. tt }

-- ---- a grant for a level

-- the slots after grants one after the other
slots-grant_each : (widths : ℕ → ℕ) (clock : ℕ) (ns : List ℕ) (slots : List Slot) → AllByRecursion (IsSlot widths clock) slots → AllByRecursion (IsSlot widths clock) (grant_each ns slots)
unfolding grant_each
slots-grant_each widths clock [] slots h = h
slots-grant_each widths clock (n ∷ ns) slots h = slots-grant_each widths clock ns (grant n slots) (slots-grant widths clock n slots h)

-- grants that have their ids leave few enough slots
length-grant_each : (ns : List ℕ) (slots : List Slot) → has_ids_for_each ns slots ≡ true → length slots ≤ most_indices → length (grant_each ns slots) ≤ most_indices
unfolding grant_each has_ids_for_each
length-grant_each [] slots e few = few
length-grant_each (n ∷ ns) slots e few =
    let p = and_parts (has_ids n slots) (has_ids_for_each ns (grant n slots)) e in
    length-grant_each ns (grant n slots) p.1 (length-grant n slots p.0)

-- the run state after a grant that has its ids
pub run-grant : (widths : ℕ → ℕ) (s : Schedule) (k : ℕ) (run : RunState) → has_ids_for_level s k run ≡ true → IsRunStateOf widths s run → IsRunStateOf widths s (after_grant s k run)
unfolding after_grant has_ids_for_level
run-grant widths s k run ids h = record {
  state = record {
    world = record {
      slots = slots-grant_each widths run.state.world.clock (counts_of_level s k) run.state.world.slots h.state.world.slots;
      few = length-grant_each (counts_of_level s k) run.state.world.slots ids h.state.world.few;
      resource_number = h.state.world.resource_number;
      resources = h.state.world.resources;
      clock_least = h.state.world.clock_least;
      clock_most = h.state.world.clock_most;
    };
    queue_number = h.state.queue_number;
    queues = h.state.queues;
    systems = h.state.systems;
    conditions = h.state.conditions;
    passed_over = h.state.passed_over;
  };
  buffers = h.buffers;
}

-- what an opening needs
opening-parts : (s : Schedule) (w : State) → can_open s w ≡ true → (has_tick w ≡ true) × (has_ids_for_level s 0 (between (opening w)) ≡ true)
unfolding can_open has_ids_to_open
opening-parts s w e = and_parts (has_tick w) (has_ids_for_level s 0 (between (opening w))) e

-- the run state after the opening
pub run-opened : (widths : ℕ → ℕ) (s : Schedule) (w : State) → can_open s w ≡ true → IsStateOf widths s w → IsRunStateOf widths s (after_opening s w)
unfolding after_opening
run-opened widths s w can h = let p = opening-parts s w can in
    run-grant widths s 0 (between (opening w)) p.1 (run-between widths s (opening w) (state-opening widths s w p.0 h))

-- ---- a condition

-- the run state after a condition was asked
pub run-condition : (widths : ℕ → ℕ) (s : Schedule) (c : ℕ) (run : RunState) → has_tick run.state ≡ true → IsRunStateOf widths s run → IsRunStateOf widths s (after_condition s c run)
unfolding after_condition
run-condition widths s c run room h = record {
  state = record {
    world = world-tick widths run.state.world (tick-room run.state room) h.state.world;
    queue_number = h.state.queue_number;
    queues = h.state.queues;
    systems = systems-later run.state.world.clock (suc run.state.world.clock) (omega arith) s.systems run.state.systems h.state.systems;
    conditions = conditions-changed (suc run.state.world.clock) c (memory_after_run (suc run.state.world.clock) (access_of s c).reads run.state.events) s.conditions run.state.conditions
        (λ m k. memory-run (suc run.state.world.clock) (suc run.state.world.clock) (access_of s c).reads run.state.events m k)
        (conditions-later run.state.world.clock (suc run.state.world.clock) (omega arith) s.conditions run.state.conditions h.state.conditions);
    passed_over = h.state.passed_over;
  };
  buffers = h.buffers;
}

-- ---- a start

-- the run state after a start
pub run-start : (widths : ℕ → ℕ) (s : Schedule) (n : ℕ) (run : RunState) → can_start run ≡ true → IsRunStateOf widths s run → IsRunStateOf widths s (after_start s n run)
unfolding after_start
run-start widths s n run room h = record {
  state = record {
    world = world-tick widths run.state.world (tick-room run.state room) h.state.world;
    queue_number = h.state.queue_number;
    queues = h.state.queues;
    systems = systems-changed (suc run.state.world.clock) n (memory_after_run (suc run.state.world.clock) (params_of s n).reads run.state.events) s.systems run.state.systems
        (λ m k. memory-run (suc run.state.world.clock) (suc run.state.world.clock) (params_of s n).reads run.state.events m k)
        (systems-later run.state.world.clock (suc run.state.world.clock) (omega arith) s.systems run.state.systems h.state.systems);
    conditions = conditions-later run.state.world.clock (suc run.state.world.clock) (omega arith) s.conditions run.state.conditions h.state.conditions;
    passed_over = h.state.passed_over;
  };
  buffers = h.buffers;
}

-- ---- a sync point

-- the commands of a level have their kinds' widths
commands-width : (widths : ℕ → ℕ) (s : Schedule) (k : ℕ) (run : RunState) → ((n : ℕ) → AllByRecursion (HasWidth widths) (run.buffers n)) → AllByRecursion (HasWidth widths) (commands_of_level s k run)
commands-width widths s k run h = each-flat_map (HasWidth widths) run.buffers h (systems_of_level s k)

-- what the commands of a level leave
commands-target : (widths : ℕ → ℕ) (s : Schedule) (k : ℕ) (run : RunState) → IsRunStateOf widths s run
    → IsTarget widths (suc run.state.world.clock) (length run.state.world.slots) (commands_applied s k run)
commands-target widths s k run h = target-buffer widths (suc run.state.world.clock) (length run.state.world.slots) (commands_of_level s k run)
    (record { slots = run.state.world.slots; passed_over = run.state.passed_over }) (commands-width widths s k run h.buffers)
    (record {
      slots = slots-later widths run.state.world.clock (suc run.state.world.clock) (omega arith) run.state.world.slots h.state.world.slots;
      count_same = refl;
      passed_over = h.state.passed_over;
    })

-- the run state after the commands of a level
run-commands : (widths : ℕ → ℕ) (s : Schedule) (k : ℕ) (run : RunState) → has_tick run.state ≡ true → IsRunStateOf widths s run → IsRunStateOf widths s (after_commands s k run)
unfolding after_commands
run-commands widths s k run room h = let t = commands-target widths s k run h in let few = h.state.world.few in record {
  state = record {
    world = record {
      slots = slots-release widths (suc run.state.world.clock) (ids_of_level s k run) (commands_applied s k run).slots t.slots;
      few = omega (arith, length-release (ids_of_level s k run) (commands_applied s k run).slots, t.count_same);
      resource_number = h.state.world.resource_number;
      resources = resources-later run.state.world.clock (suc run.state.world.clock) (omega arith) run.state.world.resources h.state.world.resources;
      clock_least = omega arith;
      clock_most = tick-room run.state room;
    };
    queue_number = h.state.queue_number;
    queues = h.state.queues;
    systems = systems-later run.state.world.clock (suc run.state.world.clock) (omega arith) s.systems run.state.systems h.state.systems;
    conditions = conditions-later run.state.world.clock (suc run.state.world.clock) (omega arith) s.conditions run.state.conditions h.state.conditions;
    passed_over = t.passed_over;
  };
  buffers = λ n. cond_both (level_of s n == k) [] (run.buffers n) (AllByRecursion (HasWidth widths)) (λ e. tt) (λ e. h.buffers n);
}

-- what a sync point needs
sync-parts : (s : Schedule) (k : ℕ) (run : RunState) → can_sync s k run ≡ true → (has_tick run.state ≡ true) × (has_ids_for_level s (suc k) (after_commands s k run) ≡ true)
unfolding can_sync has_ids_to_sync
sync-parts s k run e = and_parts (has_tick run.state) (has_ids_for_level s (suc k) (after_commands s k run)) e

-- the run state after a sync point
pub run-sync : (widths : ℕ → ℕ) (s : Schedule) (k : ℕ) (run : RunState) → can_sync s k run ≡ true → IsRunStateOf widths s run → IsRunStateOf widths s (after_sync s k run)
unfolding after_sync
run-sync widths s k run can h = let p = sync-parts s k run can in
    run-grant widths s (suc k) (after_commands s k run) p.1 (run-commands widths s k run p.0 h)

-- ---- a finish

-- the world with an outcome laid over it
world-overlaid : (widths : ℕ → ℕ) (params : Params) (p : RunningSystem) (o : Outcome) (w : World) → p.tick ≤ w.clock → IsWithin widths params p.shown o → IsWorld widths w
    → IsWorld widths (record {
      slots = slots_after p.tick (words_written params.queries p.shown.rows o.cells) w.slots;
      resources = resources_after p.tick (value_written params.res_mut o.res_mut) w.resources;
      clock = w.clock;
    })
world-overlaid widths params p o w le within h = let few = h.few in record {
  slots = slots-after widths w.clock p.tick (words_written params.queries p.shown.rows o.cells) le
      (λ index kind. width-written widths params.queries p.shown.rows o.cells index kind within.cells) w.slots h.slots;
  few = omega (arith, length-slots_after p.tick (words_written params.queries p.shown.rows o.cells) w.slots);
  resource_number = length-resources_after p.tick (value_written params.res_mut o.res_mut) w.resources ∙ h.resource_number;
  resources = resources-after w.clock p.tick le (value_written params.res_mut o.res_mut) w.resources h.resources;
  clock_least = h.clock_least;
  clock_most = h.clock_most;
}

-- the run state with an outcome laid over it
pub run-overlaid : (widths : ℕ → ℕ) (s : Schedule) (p : RunningSystem) (o : Outcome) (run : RunState) → p.tick ≤ run.state.world.clock
    → IsWithin widths (params_of s p.system) p.shown o → can_finish s p.system o run ≡ true → IsRunStateOf widths s run → IsRunStateOf widths s (overlaid s p o run)
unfolding overlaid can_finish
run-overlaid widths s p o run le within can h = record {
  state = record {
    world = world-overlaid widths (params_of s p.system) p o run.state.world le within h.state.world;
    queue_number = length-queues_after (events_sent (params_of s p.system).writes o.events) run.state.events ∙ h.state.queue_number;
    queues = queues-after (events_sent (params_of s p.system).writes o.events) run.state.events can h.state.queues;
    systems = systems-changed run.state.world.clock p.system (with_registers o.registers) s.systems run.state.systems
        (λ m k. memory-registers run.state.world.clock (params_of s p.system).reads o.registers m within.registers k) h.state.systems;
    conditions = h.state.conditions;
    passed_over = h.state.passed_over;
  };
  buffers = λ n. cond_both (n == p.system) o.commands (run.buffers n) (AllByRecursion (HasWidth widths)) (λ e. within.inserts) (λ e. h.buffers n);
}
