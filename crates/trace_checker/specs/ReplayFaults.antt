-- The faults of a replay: what each says of the steps, and of one step; and what is told of a body that has run.
use Rattle.std.specs.Prelude.{ℕ, ◌<◌, ◌≡◌, ◌≢◌, Bool, List, [], length, get_or, set, slice_get, Option, Some, option_map, Result, Ok, Err}
use Rattle.model.specs.declared.steps.Step.{Step}
use Rattle.model.specs.declared.steps.Step.TheVariants.{Cond, Start, Sync}
use Rattle.model.specs.access.Access.{Params}
use Rattle.model.specs.state.State.{State, Slot}
use Rattle.model.specs.state.KindSets.{kind_sets_of}
use Rattle.model.specs.shown.Outcome.{BodyMeaning}
use Rattle.model.specs.steps.Schedule.{Schedule, Recorded, recording}
use Rattle.model.specs.runs.RunState.{RunState}
use Rattle.model.specs.runs.Causes.{Cause, serial_cause_of}
use Rattle.body.specs.Answers.{Answers}
use Rattle.body.specs.Seen.{Seen}
use Rattle.body.specs.declared.system_body.BodyFault.{BodyFault}
use Rattle.engine.specs.declared.faults.RunFault.{RunFault}
use Rattle.engine.specs.declared.faults.RunFault.TheVariants.{Memory}
use Rattle.engine.specs.Stops.{IsReportedAs}
use Rattle.trace_checker.specs.declared.check.Verdict.TheVariants as verdict
use Rattle.trace_checker.specs.declared.replay.ReplayFault.{ReplayFault}
use Rattle.trace_checker.specs.declared.replay.ReplayFault.TheVariants as replay
use Rattle.trace_checker.specs.Verdicts.{IsSaidOf}
use Rattle.model.specs.runs.Replays.{IsReplayed, IsWrongAnswer, AreWrongSets, IsReplayStopped}
use Rattle.model.specs.runs.Replays.{IsWrongHere}

-- what stops a complete run: a failed allocation at any time, or the cause that the serial meaning meets first
abbrev pub IsStoppedAs : Schedule → List BodyMeaning → State → List Step → RunFault → Type 0
IsStoppedAs s bodies w h Memory = Unit {0}
IsStoppedAs s bodies w h fault = (cause : Cause) × IsReportedAs cause fault × IsReplayStopped s bodies w h cause

-- a fault of a replay of a history, which has the latest step first: what is said of it, else the first wrong answer, the first wrong kind sets
-- or what stops it
abbrev pub IsFaultOf : Schedule → List BodyMeaning → State → List Step → ReplayFault → Type 0
IsFaultOf s bodies w h (replay.Bad n fault) = IsSaidOf s h (verdict.Bad n fault)
IsFaultOf s bodies w h replay.Unfinished = IsSaidOf s h verdict.Unfinished
IsFaultOf s bodies w h (replay.WrongAnswer n) = IsSaidOf s h verdict.Complete × IsWrongAnswer s bodies w h n
IsFaultOf s bodies w h (replay.WrongSets n) = IsSaidOf s h verdict.Complete × AreWrongSets s bodies w h n
IsFaultOf s bodies w h (replay.Run Memory) = Unit {0}
IsFaultOf s bodies w h (replay.Run fault) = IsSaidOf s h verdict.Complete × IsStoppedAs s bodies w h fault

-- what a replay of a history comes to
abbrev pub IsReplayOf : Schedule → List BodyMeaning → State → List Step → Result State ReplayFault → Type 0
IsReplayOf s bodies w h (Ok w') = IsReplayed s bodies w h w'
IsReplayOf s bodies w h (Err fault) = IsFaultOf s bodies w h fault

-- a fault of a replay of a recorded run, by the kind sets that it records
abbrev pub IsReplayFault : Schedule → List BodyMeaning → State → Recorded → ReplayFault → Type 0
IsReplayFault s bodies w r fault = IsFaultOf (recording s r.sets) bodies w r.steps fault

-- what a replay of a recorded run comes to
abbrev pub IsReplay : Schedule → List BodyMeaning → State → Recorded → Result State ReplayFault → Type 0
IsReplay s bodies w r result = IsReplayOf (recording s r.sets) bodies w r.steps result

-- ---- one step of it

-- the numbers of a step are those of a schedule
abbrev pub IsKnown : Schedule → Step → Type 0
IsKnown s (Cond c answer) = c < length s.conditions
IsKnown s (Start n) = n < length s.systems
IsKnown s (Sync k) = k < s.syncs
IsKnown s step = Unit {0}

-- what stops a step
abbrev pub IsStoppedHere : Schedule → List BodyMeaning → RunState → Step → RunFault → Type 0
IsStoppedHere s bodies run step Memory = Unit {0}
IsStoppedHere s bodies run step fault = (cause : Cause) × IsReportedAs cause fault × (serial_cause_of s bodies step run ≡ Some cause)

-- a fault of a step of this number
abbrev pub IsStepFault : Schedule → List BodyMeaning → RunState → Step → ℕ → ReplayFault → Type 0
IsStepFault s bodies run step number (replay.WrongAnswer n) = (n ≡ number) × IsWrongHere s run step
IsStepFault s bodies run step number (replay.Run fault) = IsStoppedHere s bodies run step fault
IsStepFault s bodies run step number fault = ⊥

-- ---- the kind sets at a place

-- the kind sets recorded at a place, where they are recorded: at the opening for 0, else after so many sync points
abbrev pub list_at : Option (List (List ℕ)) → ℕ → Option (List ℕ)
list_at sets place = option_map (λ lists. get_or lists place []) sets

-- a fault of comparing recorded kind sets with those of the living entities, after the step of this number: they differ, or an allocation failed
abbrev pub AreWrongHere : Option (List ℕ) → List Slot → ℕ → ReplayFault → Type 0
AreWrongHere sets slots number (replay.WrongSets n) = (n ≡ number) × (numbers : List ℕ) × (sets ≡ Some numbers) × (numbers ≢ kind_sets_of slots)
AreWrongHere sets slots number (replay.Run Memory) = Unit {0}
AreWrongHere sets slots number fault = ⊥

-- ---- a body that has run

-- of these bodies that of a system ran, which answered this, and its meaning and what it fits stay
pub record HasRun {B : Type 0} (meaning : B → Params → BodyMeaning) (fits : B → Params → Bool) (bodies : List B) (n : ℕ) (before : Seen) (later : List B) (after : Seen) (answer : Result (Unit {0}) BodyFault) : Type 0 where
  pub body : B
  pub there : slice_get bodies n ≡ Some body
  pub ended : B
  pub later_is : later ≡ set bodies n ended
  pub answered : Answers (meaning body before.params before.shown) after answer
  pub shown : after.shown ≡ before.shown
  pub params : after.params ≡ before.params
  pub opening : after.opening ≡ before.opening
  pub same_meaning : meaning ended ≡ meaning body
  pub same_fit : fits ended ≡ fits body
