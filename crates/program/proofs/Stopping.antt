-- Where runs stop that come after others.
use Rattle.std.proofs.Common.{◌≡◌, ◌≤◌, ℕ, ◌+◌, ◌++◌, Bool, List, length, length-append, subst, arith}
use Rattle.model.specs.shown.Outcome.{BodyMeaning}
use Rattle.model.specs.state.State.{State}
use Rattle.model.specs.steps.Schedule.{Schedule, Recorded}
use Rattle.model.specs.runs.Causes.{Cause}
use Rattle.model.specs.runs.WideRuns.{AreWideRuns, IsWideStopped}
use Rattle.model.proofs.progress.Determinism.{defined_runs_go_through}
use Rattle.model.proofs.progress.WideOfOne.{wide_stops_of_one_are_single}
use Rattle.engine.specs.Stops.{AreStopped, StopsAs}
use Rattle.engine.specs.declared.faults.RunFault.{RunFault}
use Rattle.engine.specs.declared.faults.RunFault.TheVariants as stop
use Rattle.program.specs.declared.fault.Fault.{Fault}
use Rattle.program.specs.declared.fault.Fault.TheVariants.{ClockSpent, IdsSpent, BodyRefused, Memory, NoWorker}
use Rattle.program.specs.Recorded.{HaveRun}
use Rattle.program.specs.Refused.{IsStoppedRun, IsUnrun}
use Rattle.program.proofs.Times.{more-wide}

module _ (there : Bool) (width : ℕ) (s : Schedule) (bodies : List BodyMeaning) (start middle : State) (before : List Recorded) (ran : AreWideRuns width s bodies start before middle) (count times : ℕ)
    (within : length before + count ≤ times) where
  -- runs that stop after others are among all that were asked for
  wide-later : (met : Cause) → IsWideStopped width s bodies count middle met → IsWideStopped width s bodies times start met
  wide-later met h = record {
    complete_runs = before ++ h.complete_runs;
    fewer = omega (arith, within, h.fewer, length-append before h.complete_runs);
    middle = h.middle;
    ran = more-wide width s bodies start before h.complete_runs middle h.middle ran h.ran;
    stopped = h.stopped;
  }

  stopped-later : (met : Cause) → AreStopped width s bodies count middle met → AreStopped width s bodies times start met
  stopped-later met h =
      let wide = wide-later met h.wide in
      let single = λ (one : width ≡ 1). wide_stops_of_one_are_single s bodies times start met (subst (λ n. IsWideStopped n s bodies times start met) one wide) in
      record { wide = wide; single = single; undefined = λ one has. defined_runs_go_through s bodies times start met has (single one) }

  fault-later : (fault : RunFault) → StopsAs there width s bodies count middle fault → StopsAs there width s bodies times start fault
  fault-later stop.Memory h = tt
  fault-later stop.Spoiled h = tt
  fault-later stop.NoWorker h = h
  fault-later stop.ClockSpent h = (h.0, h.1, stopped-later h.0 h.2)
  fault-later stop.IdsSpent h = (h.0, h.1, stopped-later h.0 h.2)
  fault-later (stop.BodyFault n) h = (h.0, h.1, stopped-later h.0 h.2)

  -- and what is told of them is told of all
  pub told-later : (recorded : Bool) (fault : Fault) → IsStoppedRun there width s bodies count middle fault → IsUnrun there width s bodies times start recorded fault
  told-later recorded ClockSpent h = fault-later stop.ClockSpent h
  told-later recorded IdsSpent h = fault-later stop.IdsSpent h
  told-later recorded BodyRefused h = (h.0, fault-later (stop.BodyFault h.0) h.1)
  told-later recorded NoWorker h = fault-later stop.NoWorker h
  told-later recorded Memory h = tt
  told-later recorded fault h = absurd h

-- so too of runs of the same schedule with bodies that mean the same
pub next-told : (there : Bool) (width : ℕ) (s z : Schedule) (bodies others : List BodyMeaning) (start middle : State) (before : List Recorded) (count times : ℕ) (recorded : Bool) (fault : Fault) → z ≡ s → others ≡ bodies
    → HaveRun width s bodies start before middle → length before + count ≤ times → IsStoppedRun there width z others count middle fault → IsUnrun there width s bodies times start recorded fault
next-told there width s z bodies others start middle before count times recorded fault same_schedule same_bodies ran within h =
    told-later there width s bodies start middle before ran.ran count times within recorded fault
    (subst (λ bs. IsStoppedRun there width s bs count middle fault) same_bodies (subst (λ t. IsStoppedRun there width t others count middle fault) same_schedule h))
