-- What it is to take a recorded run again on one thread: its answers and kind sets compared with the serial meaning, and where that stops.
use Rattle.std.specs.Prelude.{ℕ, ◌+◌, ◌≡◌, ◌≢◌, Bool, true, List, [], ◌∷◌, ◌++◌, length, Option, Some}
use Rattle.model.specs.declared.steps.Step.{Step}
use Rattle.model.specs.declared.steps.Step.TheVariants.{Cond, Start, Skip, Finish, Sync}
use Rattle.model.specs.state.State.{State}
use Rattle.model.specs.state.KindSets.{kind_sets_of}
use Rattle.model.specs.state.Agreement.{IsRun}
use Rattle.model.specs.shown.Outcome.{BodyMeaning}
use Rattle.model.specs.steps.Schedule.{Schedule}
use Rattle.model.specs.steps.Lawful.{sets_at}
use Rattle.model.specs.runs.RunState.{RunState, answer_of, can_ask}
use Rattle.model.specs.runs.Meaning.{serial, serial_step}
use Rattle.model.specs.runs.Causes.{Cause, serial_cause}
use Rattle.model.specs.runs.Runs.{IsSoundRun}

-- ---- recorded answers

-- a recorded answer is the condition's meaning on the serial run before it, where it can be asked there
abbrev pub IsAnswerOf : Schedule → Step → Option RunState → Type 0
IsAnswerOf s (Cond c answer) (Some run) = can_ask run ≡ true → answer ≡ answer_of s c run
IsAnswerOf s step run = Unit {0}

-- so is every answer of a history
abbrev pub HasSerialAnswers : Schedule → List BodyMeaning → State → List Step → Type 0
HasSerialAnswers s bodies start [] = Unit {0}
HasSerialAnswers s bodies start (step ∷ h) = IsAnswerOf s step (serial s bodies start h) × HasSerialAnswers s bodies start h

-- ---- recorded kind sets

-- recorded kind sets, where there are any, are those of the living entities of a run state, where there is one
abbrev pub IsListOf : Option (List ℕ) → Option RunState → Type 0
IsListOf (Some numbers) (Some run) = numbers ≡ kind_sets_of run.state.world.slots
IsListOf sets run = Unit {0}

-- all that is recorded is that of the serial run: at the opening, and after each sync point
abbrev pub HasSerialSets : Schedule → List BodyMeaning → State → List Step → Type 0
HasSerialSets s bodies start [] = IsListOf (sets_at s []) (serial s bodies start [])
HasSerialSets s bodies start (Cond c answer ∷ h) = HasSerialSets s bodies start h
HasSerialSets s bodies start (Start n ∷ h) = HasSerialSets s bodies start h
HasSerialSets s bodies start (Skip n ∷ h) = HasSerialSets s bodies start h
HasSerialSets s bodies start (Finish n ∷ h) = HasSerialSets s bodies start h
HasSerialSets s bodies start (Sync k ∷ h) = IsListOf (sets_at s (Sync k ∷ h)) (serial s bodies start (Sync k ∷ h)) × HasSerialSets s bodies start h

-- what is recorded before the latest step is
abbrev pub HasSetsBefore : Schedule → List BodyMeaning → State → List Step → Type 0
HasSetsBefore s bodies start [] = Unit {0}
HasSetsBefore s bodies start (step ∷ h) = HasSerialSets s bodies start h

-- a place at which kind sets are recorded: the opening, or right after a sync point
abbrev pub IsPlaceOfSets : List Step → Type 0
IsPlaceOfSets [] = Unit {0}
IsPlaceOfSets (Cond c answer ∷ h) = ⊥
IsPlaceOfSets (Start n ∷ h) = ⊥
IsPlaceOfSets (Skip n ∷ h) = ⊥
IsPlaceOfSets (Finish n ∷ h) = ⊥
IsPlaceOfSets (Sync k ∷ h) = Unit {0}

-- ---- what a replay comes to

-- the run is complete and lawful with true answers and kind sets, and sound: its meaning, interleaved and serial, leaves this state
pub record IsReplayed (s : Schedule) (bodies : List BodyMeaning) (w : State) (h : List Step) (w' : State) : Type 0 where
  pub run : IsRun s bodies w h
  pub sound : IsSoundRun s bodies w h w'

-- the first step, by its number from 1, whose recorded answer isn't the condition's meaning, where the serial meaning is defined through
-- it. All kind sets recorded before it are right
pub record IsWrongAnswer (s : Schedule) (bodies : List BodyMeaning) (w : State) (h : List Step) (n : ℕ) : Type 0 where
  pub later : List Step
  pub condition : ℕ
  pub answer : Bool
  pub front : List Step
  pub whole : h ≡ later ++ Cond condition answer ∷ front
  pub place : n ≡ length front + 1
  pub answers : HasSerialAnswers s bodies w front
  pub sets : HasSerialSets s bodies w front
  pub run : RunState
  pub meaning : serial s bodies w front ≡ Some run
  pub asked : can_ask run ≡ true
  pub wrong : answer ≢ answer_of s condition run

-- the first step with a wrong record, by its number from 1, or 0 for the opening: the kind sets that are recorded there aren't those of the
-- living entities. All answers and kind sets recorded before it are right
pub record AreWrongSets (s : Schedule) (bodies : List BodyMeaning) (w : State) (h : List Step) (n : ℕ) : Type 0 where
  pub later : List Step
  pub front : List Step
  pub whole : h ≡ later ++ front
  pub place : n ≡ length front
  pub answers : HasSerialAnswers s bodies w front
  pub sets : HasSetsBefore s bodies w front
  pub are_there : IsPlaceOfSets front
  pub numbers : List ℕ
  pub recorded : sets_at s front ≡ Some numbers
  pub run : RunState
  pub meaning : serial s bodies w front ≡ Some run
  pub wrong : numbers ≢ kind_sets_of run.state.world.slots

-- the serial meaning meets this cause first, and no wrong answer and no wrong kind sets stand before
pub record IsReplayStopped (s : Schedule) (bodies : List BodyMeaning) (w : State) (h : List Step) (cause : Cause) : Type 0 where
  pub later : List Step
  pub front : List Step
  pub whole : h ≡ later ++ front
  pub answers : HasSerialAnswers s bodies w front
  pub sets : HasSerialSets s bodies w front
  pub stops : serial_cause s bodies w front ≡ Some cause

-- one of the four: it leaves a state, has its first wrong answer or its first wrong kind sets at a step, or stops for a cause
pub data Replay : Type 0 where
  Leaves : State → Replay
  AnswersWrong SetsWrong : ℕ → Replay
  Stops : Cause → Replay

-- what a run that is taken again comes to
abbrev pub ComesTo : Schedule → List BodyMeaning → State → List Step → Replay → Type 0
ComesTo s bodies w h (Leaves w') = IsReplayed s bodies w h w'
ComesTo s bodies w h (AnswersWrong n) = IsWrongAnswer s bodies w h n
ComesTo s bodies w h (SetsWrong n) = AreWrongSets s bodies w h n
ComesTo s bodies w h (Stops cause) = IsReplayStopped s bodies w h cause

-- ---- one step of it

-- after this history the answers and the kind sets that were recorded are true, and the serial meaning is this run state
pub record IsReached (s : Schedule) (bodies : List BodyMeaning) (start : State) (h : List Step) (run : RunState) : Type 0 where
  pub answers : HasSerialAnswers s bodies start h
  pub sets : HasSerialSets s bodies start h
  pub meaning : serial s bodies start h ≡ Some run

-- the serial meaning of a step leads from a run state to another, and its recorded answer is true
pub record IsStepTaken (s : Schedule) (bodies : List BodyMeaning) (run : RunState) (step : Step) (later : RunState) : Type 0 where
  pub meaning : serial_step s bodies step run ≡ Some later
  pub answer : IsAnswerOf s step (Some run)

-- a step whose recorded answer isn't the condition's meaning, where it can be asked
abbrev pub IsWrongHere : Schedule → RunState → Step → Type 0
IsWrongHere s run (Cond c answer) = (can_ask run ≡ true) × (answer ≢ answer_of s c run)
IsWrongHere s run step = ⊥

-- the kind sets that are recorded after a step, where it is a sync point, are those of the run state to which it leads
abbrev pub IsListAfter : Schedule → List Step → Step → RunState → Type 0
IsListAfter s h (Sync k) later = IsListOf (sets_at s (Sync k ∷ h)) (Some later)
IsListAfter s h step later = Unit {0}
