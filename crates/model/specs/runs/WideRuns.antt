-- The runs of a coordinator with room for so many running systems, and where they stop.
use Rattle.std.specs.Prelude.{ℕ, ◌<◌, ◌≡◌, List, [], ◌∷◌, length, Some}
use Rattle.model.specs.declared.steps.Step.{Step}
use Rattle.model.specs.state.State.{State}
use Rattle.model.specs.shown.Outcome.{BodyMeaning}
use Rattle.model.specs.steps.Schedule.{Schedule, Recorded, recording}
use Rattle.model.specs.steps.Lawful.{IsComplete}
use Rattle.model.specs.steps.Widths.{IsWide}
use Rattle.model.specs.runs.Meaning.{Interleaved, interleaved, HasTrueAnswers, HasTrueSets}
use Rattle.model.specs.runs.Causes.{Cause, interleaved_cause}

-- a run from one state to another with room for so many running systems: a complete list of such steps, with true answers and true kind
-- sets, whose interleaved meaning ends there
pub record IsWideRun (width : ℕ) (s : Schedule) (bodies : List BodyMeaning) (w : State) (h : List Step) (w' : State) : Type 0 where
  pub wide : IsWide width s h
  pub complete : IsComplete s h
  pub answers : HasTrueAnswers s bodies w h
  pub sets : HasTrueSets s bodies w h
  pub end : Interleaved
  pub meaning : interleaved s bodies w h ≡ Some end
  pub leaves : end.run.state ≡ w'

-- runs one after the other, the first first
abbrev pub AreWideRuns : ℕ → Schedule → List BodyMeaning → State → List Recorded → State → Type 0
AreWideRuns width s bodies w [] w' = w ≡ w'
AreWideRuns width s bodies w (r ∷ rs) w' = (middle : State) × IsWideRun width (recording s r.sets) bodies w r.steps middle × AreWideRuns width s bodies middle rs w'

-- a front of such a list with true answers and true kind sets, on which the interleaved meaning stops for this cause
pub record WideStops (width : ℕ) (s : Schedule) (bodies : List BodyMeaning) (w : State) (cause : Cause) : Type 0 where
  pub front : Recorded
  pub wide : IsWide width (recording s front.sets) front.steps
  pub answers : HasTrueAnswers (recording s front.sets) bodies w front.steps
  pub sets : HasTrueSets (recording s front.sets) bodies w front.steps
  pub stops : interleaved_cause (recording s front.sets) bodies w front.steps ≡ Some cause

-- after fewer than so many complete runs, such a front
pub record IsWideStopped (width : ℕ) (s : Schedule) (bodies : List BodyMeaning) (times : ℕ) (w : State) (cause : Cause) : Type 0 where
  pub complete_runs : List Recorded
  pub fewer : length complete_runs < times
  pub middle : State
  pub ran : AreWideRuns width s bodies w complete_runs middle
  pub stopped : WideStops width s bodies middle cause
