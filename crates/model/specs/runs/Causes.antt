-- Why a meaning is not defined: the cause that is met first.
use Rattle.std.specs.Prelude.{ℕ, Bool, true, false, List, [], ◌∷◌, Option, Some, None, Result, Ok, Err}
use Rattle.model.specs.declared.steps.Step.{Step}
use Rattle.model.specs.declared.steps.Step.TheVariants.{Cond, Start, Skip, Finish, Sync}
use Rattle.model.specs.Lists.{first_some}
use Rattle.model.specs.state.State.{State}
use Rattle.model.specs.shown.Outcome.{BodyMeaning, Outcome}
use Rattle.model.specs.steps.Schedule.{Schedule}
use Rattle.model.specs.runs.RunState.{RunState, RunningSystem, has_tick, has_ids_to_open, can_ask, can_start, has_ids_to_sync, started_system, body_of, can_finish, after_start}
use Rattle.model.specs.runs.Meaning.{serial, interleaved, Interleaved, running_system}

-- no tick, too few ids, a body that refuses with a number, no event number
pub data Cause : Type 0 where
  NoTick NoIds : Cause
  Refused : ℕ → Cause
  NoEventNumber : Cause

-- the cause, where a test fails
abbrev pub unless : Bool → Cause → Option Cause
unless true cause = None
unless false cause = Some cause

-- why an opening stops: no tick is left, then no ids
abbrev pub cause_of_opening : Schedule → State → Option Cause
cause_of_opening s start = first_some (unless (has_tick start) NoTick) (unless (has_ids_to_open s start) NoIds)

-- why a start stops before its body: no tick is left
abbrev pub cause_of_start : RunState → Option Cause
cause_of_start run = unless (can_start run) NoTick

-- why a sync point stops: no tick is left, then no ids
abbrev pub cause_of_sync : Schedule → ℕ → RunState → Option Cause
cause_of_sync s k run = first_some (unless (has_tick run.state) NoTick) (unless (has_ids_to_sync s k run) NoIds)

-- why the finish of a running system stops: its body refuses, then no event number is left
abbrev pub cause_of_answer : Schedule → RunningSystem → Result Outcome ℕ → RunState → Option Cause
cause_of_answer s p (Err refusal) run = Some (Refused refusal)
cause_of_answer s p (Ok outcome) run = unless (can_finish s p.system outcome run) NoEventNumber

abbrev pub cause_of_finish : Schedule → List BodyMeaning → RunningSystem → RunState → Option Cause
cause_of_finish s bodies p run = cause_of_answer s p (body_of bodies p.system p.shown) run

-- why a step stops, serially: at a start tick, refusal, event number in this order, at a sync point tick, then ids, at a condition the tick
abbrev pub serial_cause_of : Schedule → List BodyMeaning → Step → RunState → Option Cause
serial_cause_of s bodies (Cond c answer) run = unless (can_ask run) NoTick
serial_cause_of s bodies (Start n) run = first_some (cause_of_start run) (cause_of_finish s bodies (started_system s n run) (after_start s n run))
serial_cause_of s bodies (Skip n) run = None
serial_cause_of s bodies (Finish n) run = None
serial_cause_of s bodies (Sync k) run = cause_of_sync s k run

-- the cause at a step after what stands before it, where that is defined
abbrev pub serial_cause_at : Schedule → List BodyMeaning → Step → Option RunState → Option Cause
serial_cause_at s bodies step None = None
serial_cause_at s bodies step (Some run) = serial_cause_of s bodies step run

-- the cause that the serial meaning of a history meets first
abbrev pub serial_cause : Schedule → List BodyMeaning → State → List Step → Option Cause
serial_cause s bodies start [] = cause_of_opening s start
serial_cause s bodies start (step ∷ h) = first_some (serial_cause s bodies start h) (serial_cause_at s bodies step (serial s bodies start h))

-- the same, interleaved: the tick at the start, refusal and event number at the finish
abbrev pub cause_of_running : Schedule → List BodyMeaning → Option RunningSystem → RunState → Option Cause
cause_of_running s bodies None run = None
cause_of_running s bodies (Some p) run = cause_of_finish s bodies p run

abbrev pub interleaved_cause_of : Schedule → List BodyMeaning → Step → Interleaved → Option Cause
interleaved_cause_of s bodies (Cond c answer) w = unless (can_ask w.run) NoTick
interleaved_cause_of s bodies (Start n) w = cause_of_start w.run
interleaved_cause_of s bodies (Skip n) w = None
interleaved_cause_of s bodies (Finish n) w = cause_of_running s bodies (running_system n w.running_systems) w.run
interleaved_cause_of s bodies (Sync k) w = cause_of_sync s k w.run

abbrev pub interleaved_cause_at : Schedule → List BodyMeaning → Step → Option Interleaved → Option Cause
interleaved_cause_at s bodies step None = None
interleaved_cause_at s bodies step (Some w) = interleaved_cause_of s bodies step w

abbrev pub interleaved_cause : Schedule → List BodyMeaning → State → List Step → Option Cause
interleaved_cause s bodies start [] = cause_of_opening s start
interleaved_cause s bodies start (step ∷ h) = first_some (interleaved_cause s bodies start h) (interleaved_cause_at s bodies step (interleaved s bodies start h))
