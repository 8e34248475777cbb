-- What a run records of kind sets changes no meaning, no answer and no cause, and neither what is asked of the schedule, of states and of
-- bodies.
use Rattle.std.proofs.Common.{ℕ, ◌≡◌, List, [], ◌∷◌, ◌++◌, Option, Some, None, Result, Ok, Err, option_and_then, refl, sym, ap, ap₂, ◌∙◌}
use Rattle.model.specs.declared.steps.Step.{Step}
use Rattle.model.specs.declared.steps.Step.TheVariants.{Cond, Start, Skip, Finish, Sync}
use Rattle.model.specs.Lists.{provided, first_some}
use Rattle.model.specs.state.State.{State, Entity}
use Rattle.model.specs.state.Shape.{IsStateOf, AreIdsFor, BodiesKeepWithin}
use Rattle.model.specs.shown.Outcome.{Outcome, BodyMeaning}
use Rattle.model.specs.steps.Schedule.{Schedule, recording}
use Rattle.model.specs.steps.Built.{IsBuilt}
use Rattle.model.specs.steps.Lawful.{IsComplete}
use Rattle.model.specs.runs.RunState.{RunState, RunningSystem, has_ids_for_level, after_grant, has_ids_to_open, can_open, after_opening, begin_run, has_tick, can_ask, can_start, started_system, after_start, can_finish, overlaid, finish_with, finish, body_of, answer_of, after_condition, after_commands, has_ids_to_sync, can_sync, after_sync}
use Rattle.model.specs.runs.Meaning.{Interleaved, running_system, without_system, with_running_systems, interleaved_step, interleaved, serial_start, serial_step, serial, IsTrueAnswer, HasTrueAnswers}
use Rattle.model.specs.runs.Causes.{unless, cause_of_opening, cause_of_start, cause_of_answer, cause_of_finish, cause_of_running, interleaved_cause_of, serial_cause_of, serial_cause_at, serial_cause}
use Rattle.model.specs.runs.Causes.Cause.{NoTick, NoIds, NoEventNumber}
use Rattle.model.proofs.lists.Lists.{option_and_then-same}

-- ---- each effect

-- the state after a condition
pub condition-recording : (s : Schedule) (sets : Option (List (List ℕ))) (c : ℕ) (run : RunState) → after_condition (recording s sets) c run ≡ after_condition s c run
unfolding after_condition
condition-recording s sets c run = refl

-- the answer of a condition
pub answer-recording : (s : Schedule) (sets : Option (List (List ℕ))) (c : ℕ) (run : RunState) → answer_of (recording s sets) c run ≡ answer_of s c run
unfolding answer_of
answer-recording s sets c run = refl

-- a started system
started-recording : (s : Schedule) (sets : Option (List (List ℕ))) (n : ℕ) (run : RunState) → started_system (recording s sets) n run ≡ started_system s n run
unfolding started_system
started-recording s sets n run = refl

-- the state after a start
start-recording : (s : Schedule) (sets : Option (List (List ℕ))) (n : ℕ) (run : RunState) → after_start (recording s sets) n run ≡ after_start s n run
unfolding after_start
start-recording s sets n run = refl

-- the numbers of the commands of an outcome
numbers-recording : (s : Schedule) (sets : Option (List (List ℕ))) (n : ℕ) (o : Outcome) (run : RunState) → can_finish (recording s sets) n o run ≡ can_finish s n o run
unfolding can_finish
numbers-recording s sets n o run = refl

-- the state with an outcome over it
overlaid-recording : (s : Schedule) (sets : Option (List (List ℕ))) (p : RunningSystem) (o : Outcome) (run : RunState) → overlaid (recording s sets) p o run ≡ overlaid s p o run
unfolding overlaid
overlaid-recording s sets p o run = refl

-- whether there are ids for a level
ids-recording : (s : Schedule) (sets : Option (List (List ℕ))) (k : ℕ) (run : RunState) → has_ids_to_sync (recording s sets) k run ≡ has_ids_to_sync s k run
unfolding has_ids_to_sync has_ids_for_level after_commands
ids-recording s sets k run = refl

-- whether a sync point can be done
pub can_sync-recording : (s : Schedule) (sets : Option (List (List ℕ))) (k : ℕ) (run : RunState) → can_sync (recording s sets) k run ≡ can_sync s k run
unfolding can_sync has_ids_to_sync has_ids_for_level after_commands
can_sync-recording s sets k run = refl

-- the state after a sync point
pub sync-recording : (s : Schedule) (sets : Option (List (List ℕ))) (k : ℕ) (run : RunState) → after_sync (recording s sets) k run ≡ after_sync s k run
unfolding after_sync after_grant after_commands
sync-recording s sets k run = refl

-- whether there are ids for the opening
first_ids-recording : (s : Schedule) (sets : Option (List (List ℕ))) (state : State) → has_ids_to_open (recording s sets) state ≡ has_ids_to_open s state
unfolding has_ids_to_open has_ids_for_level
first_ids-recording s sets state = refl

-- the state at the opening
pub begin_run-recording : (s : Schedule) (sets : Option (List (List ℕ))) (state : State) → begin_run (recording s sets) state ≡ begin_run s state
unfolding can_open has_ids_to_open has_ids_for_level after_opening after_grant
begin_run-recording s sets state = refl

-- the state after a finish, by what the body answers
finish_with-recording : (s : Schedule) (sets : Option (List (List ℕ))) (answer : Result Outcome ℕ) (p : RunningSystem) (run : RunState) →
    finish_with (recording s sets) answer p run ≡ finish_with s answer p run
finish_with-recording s sets (Err refusal) p run = refl
finish_with-recording s sets (Ok o) p run = ap₂ provided (numbers-recording s sets p.system o run) (overlaid-recording s sets p o run)

-- the state after a finish
finish-recording : (s : Schedule) (sets : Option (List (List ℕ))) (bodies : List BodyMeaning) (p : RunningSystem) (run : RunState) →
    finish (recording s sets) bodies p run ≡ finish s bodies p run
finish-recording s sets bodies p run = finish_with-recording s sets (body_of bodies p.system p.shown) p run

-- ---- interleaved

-- the state after a step
pub interleaved_step-recording : (s : Schedule) (sets : Option (List (List ℕ))) (bodies : List BodyMeaning) (step : Step) (w : Interleaved) →
    interleaved_step (recording s sets) bodies step w ≡ interleaved_step s bodies step w
interleaved_step-recording s sets bodies (Cond c answer) w =
    ap (λ (run : RunState). provided (can_ask w.run) (record { run = run; running_systems = w.running_systems })) (condition-recording s sets c w.run)
interleaved_step-recording s sets bodies (Start n) w =
    ap₂ (λ (run : RunState) (p : RunningSystem). provided (can_start w.run) (record { run = run; running_systems = w.running_systems ++ p ∷ [] }))
    (start-recording s sets n w.run) (started-recording s sets n w.run)
interleaved_step-recording s sets bodies (Skip n) w = refl
interleaved_step-recording s sets bodies (Finish n) w =
    option_and_then-same (λ p. with_running_systems (without_system n w.running_systems) (finish (recording s sets) bodies p w.run))
    (λ p. with_running_systems (without_system n w.running_systems) (finish s bodies p w.run)) (running_system n w.running_systems)
    (λ p e. ap (with_running_systems (without_system n w.running_systems)) (finish-recording s sets bodies p w.run))
interleaved_step-recording s sets bodies (Sync k) w =
    ap₂ (λ b (run : RunState). provided b (record { run = run; running_systems = w.running_systems })) (can_sync-recording s sets k w.run) (sync-recording s sets k w.run)

-- what a history makes of a state, interleaved
pub interleaved-recording : (s : Schedule) (sets : Option (List (List ℕ))) (bodies : List BodyMeaning) (start : State) (h : List Step) →
    interleaved (recording s sets) bodies start h ≡ interleaved s bodies start h
interleaved-recording s sets bodies start [] = ap (with_running_systems []) (begin_run-recording s sets start)
interleaved-recording s sets bodies start (step ∷ h) =
    ap (option_and_then (interleaved_step (recording s sets) bodies step)) (interleaved-recording s sets bodies start h)
    ∙ option_and_then-same (interleaved_step (recording s sets) bodies step) (interleaved_step s bodies step) (interleaved s bodies start h)
    (λ w e. interleaved_step-recording s sets bodies step w)

-- ---- serial

-- the state after a start and its finish
serial_start-recording : (s : Schedule) (sets : Option (List (List ℕ))) (bodies : List BodyMeaning) (n : ℕ) (run : RunState) →
    serial_start (recording s sets) bodies n run ≡ serial_start s bodies n run
serial_start-recording s sets bodies n run =
    ap₂ (λ (p : RunningSystem) (r : RunState). option_and_then (finish (recording s sets) bodies p) (provided (can_start run) r))
    (started-recording s sets n run) (start-recording s sets n run)
    ∙ option_and_then-same (finish (recording s sets) bodies (started_system s n run)) (finish s bodies (started_system s n run)) (provided (can_start run) (after_start s n run))
    (λ r e. finish-recording s sets bodies (started_system s n run) r)

pub serial_step-recording : (s : Schedule) (sets : Option (List (List ℕ))) (bodies : List BodyMeaning) (step : Step) (run : RunState) →
    serial_step (recording s sets) bodies step run ≡ serial_step s bodies step run
serial_step-recording s sets bodies (Cond c answer) run = ap (provided (can_ask run)) (condition-recording s sets c run)
serial_step-recording s sets bodies (Start n) run = serial_start-recording s sets bodies n run
serial_step-recording s sets bodies (Skip n) run = refl
serial_step-recording s sets bodies (Finish n) run = refl
serial_step-recording s sets bodies (Sync k) run = ap₂ provided (can_sync-recording s sets k run) (sync-recording s sets k run)

-- what a history makes of a state, on one thread
pub serial-recording : (s : Schedule) (sets : Option (List (List ℕ))) (bodies : List BodyMeaning) (start : State) (h : List Step) →
    serial (recording s sets) bodies start h ≡ serial s bodies start h
serial-recording s sets bodies start [] = begin_run-recording s sets start
serial-recording s sets bodies start (step ∷ h) =
    ap (option_and_then (serial_step (recording s sets) bodies step)) (serial-recording s sets bodies start h)
    ∙ option_and_then-same (serial_step (recording s sets) bodies step) (serial_step s bodies step) (serial s bodies start h)
    (λ run e. serial_step-recording s sets bodies step run)

-- ---- answers

-- answers that are true at a step
true-recording : (s : Schedule) (sets : Option (List (List ℕ))) (step : Step) (w v : Option Interleaved) → v ≡ w → IsTrueAnswer s step w → IsTrueAnswer (recording s sets) step v
true-recording s sets (Cond c answer) (Some w) None e told = absurd (cc)
true-recording s sets (Cond c answer) (Some w) (Some v) e told =
    let same : v ≡ w = cc in
    told ∙ (ap (λ (x : Interleaved). answer_of s c x.run) (sym same) ∙ sym (answer-recording s sets c v.run))
true-recording s sets (Cond c answer) None None e told = tt
true-recording s sets (Cond c answer) None (Some v) e told = absurd (cc)
true-recording s sets (Start n) w v e told = tt
true-recording s sets (Skip n) w v e told = tt
true-recording s sets (Finish n) w v e told = tt
true-recording s sets (Sync k) w v e told = tt

-- answers that are true are so whatever is recorded
pub answers-recording : (s : Schedule) (sets : Option (List (List ℕ))) (bodies : List BodyMeaning) (start : State) (h : List Step) →
    HasTrueAnswers s bodies start h → HasTrueAnswers (recording s sets) bodies start h
answers-recording s sets bodies start [] told = tt
answers-recording s sets bodies start (step ∷ h) told = (
  true-recording s sets step (interleaved s bodies start h) (interleaved (recording s sets) bodies start h) (interleaved-recording s sets bodies start h) told.0,
  answers-recording s sets bodies start h told.1,
)

-- ---- causes

-- the cause why a body refuses
answer_cause-recording : (s : Schedule) (sets : Option (List (List ℕ))) (p : RunningSystem) (answer : Result Outcome ℕ) (run : RunState) →
    cause_of_answer (recording s sets) p answer run ≡ cause_of_answer s p answer run
answer_cause-recording s sets p (Err refusal) run = refl
answer_cause-recording s sets p (Ok o) run = ap (λ b. unless b NoEventNumber) (numbers-recording s sets p.system o run)

-- the cause why a step stops
step_cause-recording : (s : Schedule) (sets : Option (List (List ℕ))) (bodies : List BodyMeaning) (step : Step) (run : RunState) →
    serial_cause_of (recording s sets) bodies step run ≡ serial_cause_of s bodies step run
step_cause-recording s sets bodies (Cond c answer) run = refl
step_cause-recording s sets bodies (Start n) run =
    ap₂ (λ (p : RunningSystem) (r : RunState). first_some (cause_of_start run) (cause_of_finish (recording s sets) bodies p r))
    (started-recording s sets n run) (start-recording s sets n run)
    ∙ ap (first_some (cause_of_start run))
    (answer_cause-recording s sets (started_system s n run) (body_of bodies (started_system s n run).system (started_system s n run).shown) (after_start s n run))
step_cause-recording s sets bodies (Skip n) run = refl
step_cause-recording s sets bodies (Finish n) run = refl
step_cause-recording s sets bodies (Sync k) run = ap (λ b. first_some (unless (has_tick run.state) NoTick) (unless b NoIds)) (ids-recording s sets k run)

-- the cause why a running system's finish stops
running_cause-recording : (s : Schedule) (sets : Option (List (List ℕ))) (bodies : List BodyMeaning) (o : Option RunningSystem) (run : RunState) →
    cause_of_running (recording s sets) bodies o run ≡ cause_of_running s bodies o run
running_cause-recording s sets bodies None run = refl
running_cause-recording s sets bodies (Some p) run = answer_cause-recording s sets p (body_of bodies p.system p.shown) run

-- the cause why a step stops, interleaved
pub interleaved_cause-recording : (s : Schedule) (sets : Option (List (List ℕ))) (bodies : List BodyMeaning) (step : Step) (w : Interleaved) →
    interleaved_cause_of (recording s sets) bodies step w ≡ interleaved_cause_of s bodies step w
interleaved_cause-recording s sets bodies (Cond c answer) w = refl
interleaved_cause-recording s sets bodies (Start n) w = refl
interleaved_cause-recording s sets bodies (Skip n) w = refl
interleaved_cause-recording s sets bodies (Finish n) w = running_cause-recording s sets bodies (running_system n w.running_systems) w.run
interleaved_cause-recording s sets bodies (Sync k) w = ap (λ b. first_some (unless (has_tick w.run.state) NoTick) (unless b NoIds)) (ids-recording s sets k w.run)

-- the cause why an opening stops
pub opening_cause-recording : (s : Schedule) (sets : Option (List (List ℕ))) (start : State) → cause_of_opening (recording s sets) start ≡ cause_of_opening s start
opening_cause-recording s sets start = ap (λ b. first_some (unless (has_tick start) NoTick) (unless b NoIds)) (first_ids-recording s sets start)

-- the cause why a list stops
cause_at-recording : (s : Schedule) (sets : Option (List (List ℕ))) (bodies : List BodyMeaning) (step : Step) (o : Option RunState) →
    serial_cause_at (recording s sets) bodies step o ≡ serial_cause_at s bodies step o
cause_at-recording s sets bodies step None = refl
cause_at-recording s sets bodies step (Some run) = step_cause-recording s sets bodies step run

-- the cause that the serial meaning of a history meets first
pub cause-recording : (s : Schedule) (sets : Option (List (List ℕ))) (bodies : List BodyMeaning) (start : State) (h : List Step) →
    serial_cause (recording s sets) bodies start h ≡ serial_cause s bodies start h
cause-recording s sets bodies start [] = opening_cause-recording s sets start
cause-recording s sets bodies start (step ∷ h) =
    ap₂ first_some (cause-recording s sets bodies start h)
    (ap (serial_cause_at (recording s sets) bodies step) (serial-recording s sets bodies start h) ∙ cause_at-recording s sets bodies step (serial s bodies start h))

-- ---- what is asked of a schedule, a state, a body

-- a schedule as the builder gives it
pub built-recording : (s : Schedule) (sets : Option (List (List ℕ))) → IsBuilt s → IsBuilt (recording s sets)
built-recording s sets built = record {
  few_systems = built.few_systems;
  few_conditions = built.few_conditions;
  few_syncs = built.few_syncs;
  sources = built.sources;
  rising = built.rising;
  levels = built.levels;
  listed = built.listed;
  known = built.known;
  once = built.once;
  after = built.after;
  covered = built.covered;
  reading = built.reading;
}

-- a complete list
pub complete-recording : (s : Schedule) (sets : Option (List (List ℕ))) (h : List Step) → IsComplete s h → IsComplete (recording s sets) h
complete-recording s sets h complete = record { ends = complete.ends; syncs = complete.syncs }

-- a state of a schedule
pub state-recording : (widths : ℕ → ℕ) (s : Schedule) (sets : Option (List (List ℕ))) (w : State) → IsStateOf widths s w → IsStateOf widths (recording s sets) w
state-recording widths s sets w shape = record {
  world = shape.world;
  queue_number = shape.queue_number;
  queues = shape.queues;
  systems = shape.systems;
  conditions = shape.conditions;
  passed_over = shape.passed_over;
}

-- what a system can be given
pub given-recording : (s : Schedule) (sets : Option (List (List ℕ))) (n : ℕ) (ids : List Entity) → AreIdsFor s n ids → AreIdsFor (recording s sets) n ids
given-recording s sets n ids given = record { count = given.count; once = given.once }

-- bodies that keep within their parameters
pub within-recording : (widths : ℕ → ℕ) (s : Schedule) (sets : Option (List (List ℕ))) (bodies : List BodyMeaning) → BodiesKeepWithin widths s bodies →
    BodiesKeepWithin widths (recording s sets) bodies
within-recording widths s sets bodies within n w ids o known shape given answered =
    within n w ids o known (state-recording widths (recording s sets) s.sets w shape) (given-recording (recording s sets) s.sets n ids given) answered
