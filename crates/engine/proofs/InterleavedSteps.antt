-- What a start, a finish, a sync point and a condition do to an interleaved run.
use Rattle.std.proofs.Common.{ℕ, ◌<◌, Bool, true, false, ◌≡◌, List, [], ◌∷◌, ◌++◌, length, Option, Some, Result, Ok, refl, sym, ◌∙◌, ap}
use Rattle.std.specs.Option.{option_and_then}
use Rattle.model.specs.declared.steps.Step.TheVariants.{Cond, Start, Finish, Sync}
use Rattle.model.specs.Lists.{update_at, with_at, provided}
use Rattle.model.specs.state.State.{Slot, Resource, EventQueue, Memory, State}
use Rattle.model.specs.access.Access.{Params}
use Rattle.model.specs.shown.Input.{Shown, shown}
use Rattle.model.specs.shown.Outcome.{Command, Outcome, BodyMeaning, words_written, value_written, events_sent}
use Rattle.model.specs.shown.Overlay.{slots_after, resources_after, queues_after, has_event_numbers}
use Rattle.model.specs.access.Condition.{holds}
use Rattle.model.specs.steps.Schedule.{Schedule, params_of, access_of, condition_of}
use Rattle.model.specs.runs.RunState.{RunState, RunningSystem, between, has_tick, next_tick, memory_of_condition, memory_of_system, with_registers, started_system, after_start, can_finish, overlaid, body_of, finish, finish_with, can_sync, after_sync, after_condition, answer_of}
use Rattle.model.specs.runs.Meaning.{Interleaved, running_system, without_system, with_running_systems, interleaved_step}
use Rattle.model.specs.runs.Causes.{unless, cause_of_answer, cause_of_running, interleaved_cause_of}
use Rattle.model.specs.runs.Causes.Cause.{NoEventNumber}
use Rattle.model.proofs.serial.Engine.{started_run, memories_started, shown_with}
use Rattle.body.specs.Seen.{Seen}
use Rattle.body.specs.Steps.{asked_at, laid, noted, ticked}
use Rattle.engine.specs.Deferred.{DeferredValue, commands_at, grants_at, run_with, with_commands}
use Rattle.engine.proofs.IdsInHand.{run_with_commands}

-- a run of a state with what is deferred and with these running systems
abbrev pub over : DeferredValue → State → List RunningSystem → Interleaved
over deferred state running = record { run = run_with state deferred; running_systems = running }

-- ---- a start

-- an interleaved start, with its test as an argument
abbrev pub start_form : Schedule → ℕ → State → DeferredValue → List RunningSystem → Bool → Option Interleaved
start_form s n state deferred running can = provided can (record {
  run = started_run (memories_started s n state) (run_with state deferred);
  running_systems = running ++ record { system = n; tick = next_tick state; shown = shown_with s n (grants_at deferred n) state } ∷ [];
})

start-form : (s : Schedule) (bodies : List BodyMeaning) (n : ℕ) (state : State) (deferred : DeferredValue) (running : List RunningSystem) → interleaved_step s bodies (Start n) (over deferred state running)
    ≡ start_form s n state deferred running (has_tick state)
unfolding started_system after_start
start-form s bodies n state deferred running = refl

-- a start notes the run of the system at the next tick, and the system runs, with the ids that it was granted
pub start_woven : (s : Schedule) (bodies : List BodyMeaning) (n : ℕ) (state : State) (deferred : DeferredValue) (running : List RunningSystem) → has_tick state ≡ true →
    interleaved_step s bodies (Start n) (over deferred state running)
    ≡ Some (over deferred (noted n (params_of s n).reads (next_tick state) (ticked state))
    (running ++ record { system = n; tick = next_tick state; shown = shown (params_of s n) (memory_of_system state n) state (grants_at deferred n) } ∷ []))
start_woven s bodies n state deferred running tick = start-form s bodies n state deferred running ∙ ap (start_form s n state deferred running) tick

-- ---- a finish

-- a state of its parts that a finish changes
abbrev finished_with : State → List Slot → List Resource → List EventQueue → List Memory → State
finished_with state slots resources events systems = record {
  world = record { slots = slots; resources = resources; clock = state.world.clock };
  events = events;
  systems = systems;
  conditions = state.conditions;
  passed_over = state.passed_over;
}

-- an outcome laid over a state, with its test, and its parts as arguments
abbrev finish_form : State → DeferredValue → List RunningSystem → Bool → List Slot → List Resource → List EventQueue → List Memory → (ℕ → List Command) → Option Interleaved
finish_form state deferred running can slots resources events systems buffers = with_running_systems running (provided can (record {
  state = finished_with state slots resources events systems;
  buffers = buffers;
  grants = grants_at deferred;
}))

finish-form : (s : Schedule) (n tick : ℕ) (x : Shown) (outcome : Outcome) (state : State) (deferred : DeferredValue) (running : List RunningSystem) →
    with_running_systems running (finish_with s (Ok outcome) (record { system = n; tick = tick; shown = x }) (run_with state deferred))
    ≡ finish_form state deferred running (has_event_numbers (events_sent (params_of s n).writes outcome.events) state.events)
    (slots_after tick (words_written (params_of s n).queries x.rows outcome.cells) state.world.slots)
    (resources_after tick (value_written (params_of s n).res_mut outcome.res_mut) state.world.resources)
    (queues_after (events_sent (params_of s n).writes outcome.events) state.events) (update_at n (with_registers outcome.registers) state.systems) (with_at n outcome.commands (commands_at deferred))
unfolding overlaid can_finish
finish-form s n tick x outcome state deferred running = refl

-- a running system that answers an outcome
pub record IsAnswered (s : Schedule) (bodies : List BodyMeaning) (n : ℕ) (seen : Seen) : Type 0 where
  pub params : seen.params ≡ params_of s n
  pub answered : body_of bodies n seen.shown ≡ Ok seen.outcome

-- whether the events that were emitted in a view get numbers
abbrev pub numbers_of : Seen → State → Bool
numbers_of seen state = has_event_numbers (events_sent seen.params.writes seen.outcome.events) state.events

-- those are the events of the system
numbers-there : (s : Schedule) (n : ℕ) (seen : Seen) (state : State) → seen.params ≡ params_of s n → has_event_numbers (events_sent (params_of s n).writes seen.outcome.events) state.events ≡ numbers_of seen state
numbers-there s n seen state e = ap (λ (p : Params). has_event_numbers (events_sent p.writes seen.outcome.events) state.events) (sym e)

-- a finish lays the outcome over the state and sends its events, its commands are kept, and the system runs no more
pub finish_woven : (s : Schedule) (bodies : List BodyMeaning) (n tick : ℕ) (state : State) (deferred : DeferredValue) (running : List RunningSystem) (seen : Seen) → n < length deferred.commands → IsAnswered s bodies n seen → numbers_of seen state ≡ true →
    running_system n running ≡ Some (record { system = n; tick = tick; shown = seen.shown }) →
    interleaved_step s bodies (Finish n) (over deferred state running) ≡ Some (over (with_commands n seen.outcome.commands deferred) (laid n tick seen state) (without_system n running))
finish_woven s bodies n tick state deferred running seen known is numbers found =
    let others = without_system n running in
    let x = seen.shown in
    let o = seen.outcome in
    let slots = slots_after tick (words_written (params_of s n).queries x.rows o.cells) state.world.slots in
    let resources = resources_after tick (value_written (params_of s n).res_mut o.res_mut) state.world.resources in
    let events = queues_after (events_sent (params_of s n).writes o.events) state.events in
    let systems = update_at n (with_registers o.registers) state.systems in
    let later = finished_with state slots resources events systems in
    ap (option_and_then (λ p. with_running_systems others (finish s bodies p (run_with state deferred)))) found
    ∙ ap (λ (answer : Result Outcome ℕ). with_running_systems others (finish_with s answer (record { system = n; tick = tick; shown = x }) (run_with state deferred))) is.answered
    ∙ finish-form s n tick x o state deferred others
    ∙ ap (λ (can : Bool). finish_form state deferred others can slots resources events systems (with_at n o.commands (commands_at deferred))) (numbers-there s n seen state is.params ∙ numbers)
    ∙ ap (λ (run : RunState). Some (let w : Interleaved = record { run = run; running_systems = others } in w)) (sym (run_with_commands n o.commands later deferred known))
    ∙ ap (λ (p : Params). Some (over (with_commands n o.commands deferred) (finished_with state (slots_after tick (words_written p.queries x.rows o.cells) state.world.slots) (resources_after tick (value_written p.res_mut o.res_mut) state.world.resources) (queues_after (events_sent p.writes o.events) state.events) systems) others))
    (sym is.params)

-- where an event gets no number it stops
pub unsent_woven : (s : Schedule) (bodies : List BodyMeaning) (n tick : ℕ) (state : State) (deferred : DeferredValue) (running : List RunningSystem) (seen : Seen) → IsAnswered s bodies n seen → numbers_of seen state ≡ false →
    running_system n running ≡ Some (record { system = n; tick = tick; shown = seen.shown }) →
    interleaved_cause_of s bodies (Finish n) (over deferred state running) ≡ Some NoEventNumber
unfolding can_finish
unsent_woven s bodies n tick state deferred running seen is numbers found =
    ap (λ o. cause_of_running s bodies o (run_with state deferred)) found
    ∙ ap (λ (answer : Result Outcome ℕ). cause_of_answer s (record { system = n; tick = tick; shown = seen.shown }) answer (run_with state deferred)) is.answered
    ∙ ap (λ (can : Bool). unless can NoEventNumber) (numbers-there s n seen state is.params ∙ numbers)

-- ---- a sync point

pub sync_woven : (s : Schedule) (bodies : List BodyMeaning) (k : ℕ) (state later : State) (deferred deferred_later : DeferredValue) (running : List RunningSystem) → can_sync s k (run_with state deferred) ≡ true →
    run_with later deferred_later ≡ after_sync s k (run_with state deferred) → interleaved_step s bodies (Sync k) (over deferred state running) ≡ Some (over deferred_later later running)
sync_woven s bodies k state later deferred deferred_later running tick synced =
    ap (λ b. provided b (let w : Interleaved = record { run = after_sync s k (run_with state deferred); running_systems = running } in w)) tick
    ∙ ap (λ (run : RunState). Some (let w : Interleaved = record { run = run; running_systems = running } in w)) (sym synced)

-- ---- a condition

-- to ask a condition moves the clock, and notes the asking at the new tick
pub ask_woven : (s : Schedule) (bodies : List BodyMeaning) (c : ℕ) (answer : Bool) (state : State) (deferred : DeferredValue) (running : List RunningSystem) → has_tick state ≡ true →
    interleaved_step s bodies (Cond c answer) (over deferred state running) ≡ Some (over deferred (asked_at c (access_of s c).reads (next_tick state) (ticked state)) running)
unfolding after_condition
ask_woven s bodies c answer state deferred running tick =
    ap (λ b. provided b (over deferred (asked_at c (access_of s c).reads (next_tick state) (ticked state)) running)) tick

-- what it answers
pub answer_woven : (s : Schedule) (c : ℕ) (state : State) →
    answer_of s c (between state) ≡ holds (condition_of s c) (memory_of_condition state c).last_run (memory_of_condition state c).cursors state
unfolding answer_of
answer_woven s c state = refl

-- whatever is deferred
pub answer_alike : (s : Schedule) (c : ℕ) (state : State) (deferred : DeferredValue) → answer_of s c (run_with state deferred) ≡ answer_of s c (between state)
unfolding answer_of
answer_alike s c state deferred = refl
