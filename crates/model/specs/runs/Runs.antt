-- What an engine that runs on one thread promises of the lists that it returns, and where it stops.
use Rattle.std.specs.Prelude.{ℕ, ◌<◌, ◌≡◌, List, [], ◌∷◌, length, Some}
use Rattle.model.specs.declared.steps.Step.{Step}
use Rattle.model.specs.state.State.{State}
use Rattle.model.specs.shown.Outcome.{BodyMeaning}
use Rattle.model.specs.steps.Schedule.{Schedule, Recorded, recording}
use Rattle.model.specs.steps.Lawful.{IsLawful, IsComplete}
use Rattle.model.specs.steps.Order.{KeepsOrder}
use Rattle.model.specs.steps.Widths.{IsSingle}
use Rattle.model.specs.runs.RunState.{RunState}
use Rattle.model.specs.runs.Meaning.{Interleaved, interleaved, serial, HasTrueAnswers, HasTrueSets}
use Rattle.model.specs.runs.Causes.{Cause, serial_cause}

-- ---- the runs of one thread

-- a run from one state to another: the single-threaded list, lawful and complete, with true answers and true kind sets, whose serial
-- meaning ends there
pub record IsSingleRun (s : Schedule) (bodies : List BodyMeaning) (w : State) (h : List Step) (w' : State) : Type 0 where
  pub single : IsSingle s h
  pub lawful : IsLawful s h
  pub complete : IsComplete s h
  pub answers : HasTrueAnswers s bodies w h
  pub sets : HasTrueSets s bodies w h
  pub end : RunState
  pub meaning : serial s bodies w h ≡ Some end
  pub leaves : end.state ≡ w'

-- runs one after the other, the first first
abbrev pub AreSingleRuns : Schedule → List BodyMeaning → State → List Recorded → State → Type 0
AreSingleRuns s bodies w [] w' = w ≡ w'
AreSingleRuns s bodies w (r ∷ rs) w' = (middle : State) × IsSingleRun (recording s r.sets) bodies w r.steps middle × AreSingleRuns s bodies middle rs w'

-- so many runs have a meaning on one thread
pub record HasRuns (s : Schedule) (bodies : List BodyMeaning) (times : ℕ) (w : State) : Type 0 where
  pub runs : List Recorded
  pub count : length runs ≡ times
  pub end : State
  pub ran : AreSingleRuns s bodies w runs end

-- after fewer than so many complete runs, a front of the single-threaded list with true answers and true kind sets, on which the serial
-- meaning stops for this cause
pub record IsStopped (s : Schedule) (bodies : List BodyMeaning) (times : ℕ) (w : State) (cause : Cause) : Type 0 where
  pub complete_runs : List Recorded
  pub fewer : length complete_runs < times
  pub middle : State
  pub ran : AreSingleRuns s bodies w complete_runs middle
  pub front : Recorded
  pub single : IsSingle (recording s front.sets) front.steps
  pub answers : HasTrueAnswers (recording s front.sets) bodies middle front.steps
  pub sets : HasTrueSets (recording s front.sets) bodies middle front.steps
  pub stops : serial_cause (recording s front.sets) bodies middle front.steps ≡ Some cause

-- ---- what one may rest on

-- a run that is sound: it keeps the order that the schedule asks for, and its interleaved and serial meanings are one state
pub record IsSoundRun (s : Schedule) (bodies : List BodyMeaning) (w : State) (h : List Step) (w' : State) : Type 0 where
  pub keeps : KeepsOrder s h
  pub woven : Interleaved
  pub woven_meaning : interleaved s bodies w h ≡ Some woven
  pub woven_leaves : woven.run.state ≡ w'
  pub whole : RunState
  pub serial_meaning : serial s bodies w h ≡ Some whole
  pub serial_leaves : whole.state ≡ w'

-- sound runs one after the other, each from the state that the one before leaves
abbrev pub AreSoundRuns : Schedule → List BodyMeaning → State → List Recorded → State → Type 0
AreSoundRuns s bodies w [] w' = w ≡ w'
AreSoundRuns s bodies w (r ∷ rs) w' = (middle : State) × IsSoundRun (recording s r.sets) bodies w r.steps middle × AreSoundRuns s bodies middle rs w'
