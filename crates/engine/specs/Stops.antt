-- Why a run stops: what a stop within it means, and what is told of it once it has ended.
use Rattle.std.specs.Prelude.{ℕ, ◌≡◌, Bool, true, List, Some, Result, Ok, Err}
use Rattle.model.specs.state.State.{State}
use Rattle.model.specs.shown.Outcome.{BodyMeaning, events_sent}
use Rattle.model.specs.shown.Overlay.{has_event_numbers}
use Rattle.model.specs.steps.Schedule.{Schedule}
use Rattle.model.specs.runs.RunState.{RunState, has_tick}
use Rattle.model.specs.runs.Causes.{Cause, unless, cause_of_opening, cause_of_sync}
use Rattle.model.specs.runs.Causes.{Cause as cause}
use Rattle.model.specs.runs.Runs.{HasRuns, IsStopped}
use Rattle.model.specs.runs.WideRuns.{IsWideStopped}
use Rattle.body.specs.Seen.{Seen}
use Rattle.body.specs.declared.system_body.BodyFault.{BodyFault}
use Rattle.body.specs.declared.system_body.BodyFault.TheVariants as body
use Rattle.entity_table.specs.declared.fault.GrantFault.{GrantFault}
use Rattle.entity_table.specs.declared.fault.GrantFault.TheVariants as granting
use Rattle.event_buffers.specs.declared.queue.SendFault.{SendFault}
use Rattle.event_buffers.specs.declared.queue.SendFault.TheVariants as send
use Rattle.engine.specs.declared.faults.RunFault.{RunFault}
use Rattle.engine.specs.declared.faults.RunFault.TheVariants as fault
use Rattle.engine.specs.declared.stop.Stop.{Stop}
use Rattle.engine.specs.declared.stop.Stop.TheVariants as stop

-- ---- within a run

-- the stop of a body that refuses, of events that are not sent, and of ids that are not granted
abbrev pub stop_of_body : BodyFault → Stop
stop_of_body body.Memory = stop.Memory
stop_of_body (body.Refused n) = stop.Refused n

abbrev pub stop_of_send : SendFault → Stop
stop_of_send send.NumbersSpent = stop.NoEventNumber
stop_of_send send.Memory = stop.Memory

abbrev pub stop_of_grant : GrantFault → Stop
stop_of_grant granting.IdsSpent = stop.NoIds
stop_of_grant granting.Memory = stop.Memory

-- which stop tells of a cause
abbrev pub stop_of_cause : Cause → Stop
stop_of_cause cause.NoTick = stop.NoTick
stop_of_cause cause.NoIds = stop.NoIds
stop_of_cause cause.NoEventNumber = stop.NoEventNumber
stop_of_cause (cause.Refused n) = stop.Refused n

-- where a cause is met, it is told: no other, and no allocation that failed in its place
abbrev pub TellsOf : {T : Type 0} → (Cause → Type 0) → Result T Stop → Type 0
TellsOf Meets result = (met : Cause) → Meets met → result ≡ Err (stop_of_cause met)

-- what a stop means, where there are workers or none, by what a cause means: an allocation may fail at any time
abbrev pub StopsBy : Bool → (Cause → Type 0) → Stop → Type 0
StopsBy there Meets stop.Memory = Unit {0}
StopsBy there Meets stop.NoWorker = there ≡ true
StopsBy there Meets stop.NoTick = Meets cause.NoTick
StopsBy there Meets stop.NoIds = Meets cause.NoIds
StopsBy there Meets stop.NoEventNumber = Meets cause.NoEventNumber
StopsBy there Meets (stop.Refused n) = Meets (cause.Refused n)

-- a step that takes the next tick stops where there is none
abbrev pub LacksTick : State → Cause → Type 0
LacksTick w met = unless (has_tick w) cause.NoTick ≡ Some met

-- an opening stops where there is no tick, or there are no ids for the first level
abbrev pub CannotOpen : Schedule → State → Cause → Type 0
CannotOpen s w met = cause_of_opening s w ≡ Some met

-- a sync point stops where there is no tick, or there are no ids for the level above it
abbrev pub CannotSync : Schedule → ℕ → RunState → Cause → Type 0
CannotSync s k run met = cause_of_sync s k run ≡ Some met

-- a finish stops where the body refuses, and where what it emitted gets no numbers
abbrev pub IsNotLaid : Result (Unit {0}) BodyFault → Seen → State → Cause → Type 0
IsNotLaid (Ok done) seen w met = unless (has_event_numbers (events_sent seen.params.writes seen.outcome.events) w.events) cause.NoEventNumber ≡ Some met
IsNotLaid (Err body.Memory) seen w met = ⊥
IsNotLaid (Err (body.Refused n)) seen w met = met ≡ cause.Refused n

-- ---- once it has ended

-- what is told of a stop
abbrev pub fault_of : Stop → RunFault
fault_of stop.Memory = fault.Memory
fault_of stop.NoWorker = fault.NoWorker
fault_of stop.NoTick = fault.ClockSpent
fault_of stop.NoIds = fault.IdsSpent
fault_of stop.NoEventNumber = fault.ClockSpent
fault_of (stop.Refused n) = fault.BodyFault n

-- which fault tells of a cause
abbrev pub IsReportedAs : Cause → RunFault → Type 0
IsReportedAs cause.NoTick fault.ClockSpent = Unit {0}
IsReportedAs cause.NoIds fault.IdsSpent = Unit {0}
IsReportedAs cause.NoEventNumber fault.ClockSpent = Unit {0}
IsReportedAs (cause.Refused n) (fault.BodyFault m) = n ≡ m
IsReportedAs met told = ⊥

-- so many runs stop for a cause: with room for so many, and on one thread, where so many runs have then no meaning
pub record AreStopped (width : ℕ) (s : Schedule) (bodies : List BodyMeaning) (times : ℕ) (w : State) (met : Cause) : Type 0 where
  pub wide : IsWideStopped width s bodies times w met
  pub single : width ≡ 1 → IsStopped s bodies times w met
  pub undefined : width ≡ 1 → HasRuns s bodies times w → ⊥

-- what a fault of so many runs means, where there are workers or none: an allocation may fail at any time, and a spoiled engine has no runs
abbrev pub StopsAs : Bool → ℕ → Schedule → List BodyMeaning → ℕ → State → RunFault → Type 0
StopsAs there width s bodies times w fault.Memory = Unit {0}
StopsAs there width s bodies times w fault.Spoiled = Unit {0}
StopsAs there width s bodies times w fault.NoWorker = there ≡ true
StopsAs there width s bodies times w told = (met : Cause) × IsReportedAs met told × AreStopped width s bodies times w met
