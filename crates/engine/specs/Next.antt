-- A run between two turns, and before and after it: what is known there.
use Rattle.std.specs.Prelude.{ℕ, ◌≡◌, Bool, IsTrue, List, ◌∷◌, length, Option, Some}
use Rattle.model.specs.declared.steps.Step.{Step}
use Rattle.model.specs.declared.steps.Ready.{Ready}
use Rattle.model.specs.access.Access.{Params}
use Rattle.model.specs.state.State.{State}
use Rattle.model.specs.shown.Outcome.{BodyMeaning}
use Rattle.model.specs.steps.Schedule.{Schedule, recording}
use Rattle.model.specs.steps.Lawful.{May}
use Rattle.model.specs.runs.WideRuns.{WideStops}
use Rattle.archetype_store.specs.Layout.{AreAllHome}
use Rattle.executor_core.specs.Stands.{AreListed}
use Rattle.body.specs.Steps.{StateValue}
use Rattle.worker_pool.specs.JobOut.{JobOut}
use Rattle.engine.specs.Jobs.{AreKept, InHand, Placed}
use Rattle.engine.specs.Deferred.{DeferredValue, IsDeferredFor}
use Rattle.engine.specs.Meanings.{meanings, AllKeepWithin, Suits}
use Rattle.engine.specs.Stage.{Stage, IsTake, IsTurn, sets_after}
use Rattle.engine.specs.Stops.{StopsBy}
use Rattle.engine.specs.declared.stop.Stop.{Stop}
use Rattle.engine.specs.declared.stop.Stop.TheVariants as stop
use Rattle.engine.specs.declared.turn.Turn.{Turn}

-- no run is on: there is a body and there are memories for each system, the bodies keep within their parameters, all columns are at home, and what
-- is deferred is for the schedule
pub record IsAtRest {B : Type 0} (meaning : B → Params → BodyMeaning) (fits : B → Params → Bool) (s : Schedule) (slots : List (Option B)) (deferred : DeferredValue) (w : StateValue) : Type 0 where
  pub suits : Suits fits s slots w.state
  pub keeps : AllKeepWithin s (meanings meaning s slots)
  pub home : AreAllHome w.layout
  pub deferred_for : IsDeferredFor s deferred

-- where a run stands after this history, which recorded these kind sets: what the meaning of it is, where bodies and columns are, and what is
-- granted
pub record IsBetween {B : Type 0} (meaning : B → Params → BodyMeaning) (fits : B → Params → Bool) (there : Bool) (width : ℕ) (s : Schedule) (sets : Option (List (List ℕ))) (bodies : List BodyMeaning) (start : State) (h : List Step) (slots : List (Option B)) (deferred : DeferredValue) (out : List (JobOut B)) (w : StateValue) : Type 0 where
  pub listed : AreListed sets h
  pub stage : Stage width (recording s sets) bodies start h w.state deferred out
  pub placed : Placed meaning fits there s bodies slots out w
  pub hand : InHand s deferred out w

-- a run stands so, its bodies keep within their parameters, and this turn is next
pub record IsNext {B : Type 0} (meaning : B → Params → BodyMeaning) (fits : B → Params → Bool) (there : Bool) (width : ℕ) (s : Schedule) (sets : Option (List (List ℕ))) (bodies : List BodyMeaning) (start : State) (h : List Step) (slots : List (Option B)) (deferred : DeferredValue) (out : List (JobOut B)) (w : StateValue) (turn : Turn) : Type 0 where
  pub between : IsBetween meaning fits there width s sets bodies start h slots deferred out w
  pub keeps : AllKeepWithin s bodies
  pub following : IsTurn (recording s sets) h (length out) width (Some turn)

-- a run stands so, and this is ready
pub record IsOffered {B : Type 0} (meaning : B → Params → BodyMeaning) (fits : B → Params → Bool) (there : Bool) (width : ℕ) (s : Schedule) (sets : Option (List (List ℕ))) (bodies : List BodyMeaning) (start : State) (h : List Step) (slots : List (Option B)) (deferred : DeferredValue) (out : List (JobOut B)) (w : StateValue) (offer : Ready) : Type 0 where
  pub between : IsBetween meaning fits there width s sets bodies start h slots deferred out w
  pub take : IsTake (recording s sets) h (length out) width offer

-- the step of a turn might come, and the run stands so after it
pub record IsTaken {B : Type 0} (meaning : B → Params → BodyMeaning) (fits : B → Params → Bool) (there : Bool) (width : ℕ) (s : Schedule) (sets : Option (List (List ℕ))) (bodies : List BodyMeaning) (start : State) (h : List Step) (slots : List (Option B)) (deferred : DeferredValue) (out : List (JobOut B)) (w : StateValue) (step : Step) : Type 0 where
  pub may : May (recording s sets) h step
  pub between : IsBetween meaning fits there width s (sets_after step w.state sets) bodies start (step ∷ h) slots deferred out w

-- what a stop at a turn means, wherever this may be next
abbrev pub StopsNext : {B : Type 0} → (B → Params → BodyMeaning) → (B → Params → Bool) → Bool → ℕ → Schedule → List (Option B) → DeferredValue → List (JobOut B) → StateValue → Turn → Stop → Type 0
StopsNext meaning fits there width s slots deferred out w turn told =
    (sets : Option (List (List ℕ))) (bodies : List BodyMeaning) (start : State) (h : List Step) → IsNext meaning fits there width s sets bodies start h slots deferred out w turn → StopsBy there (WideStops width s bodies start) told

-- no body is lost by a turn, wherever this may be next, but where a worker was missing and none stands
abbrev pub KeepsNext : {B : Type 0} → (B → Params → BodyMeaning) → (B → Params → Bool) → Bool → Bool → ℕ → Schedule → List (Option B) → DeferredValue → List (JobOut B) → StateValue → Turn → List (Option B) → List (JobOut B) → Stop → Type 0
KeepsNext meaning fits there stands width s slots deferred out w turn slots_later out_later told = (told ≡ stop.NoWorker → IsTrue stands) →
    (sets : Option (List (List ℕ))) (bodies : List BodyMeaning) (start : State) (h : List Step) → IsNext meaning fits there width s sets bodies start h slots deferred out w turn → AreKept meaning fits there s bodies slots_later out_later

-- some run stands so that this is ready
abbrev pub IsOfferedIn : {B : Type 0} → (B → Params → BodyMeaning) → (B → Params → Bool) → Schedule → DeferredValue → StateValue → Ready → Type 0
IsOfferedIn {B} meaning fits s deferred w offer = (there : Bool) × (width : ℕ) × (sets : Option (List (List ℕ))) × (bodies : List BodyMeaning) × (start : State) × (h : List Step) × (slots : List (Option B)) × (out : List (JobOut B)) ×
    IsOffered meaning fits there width s sets bodies start h slots deferred out w offer

-- wherever this is ready, the step of it might come, and the run stands so after it
abbrev pub TakesOffered : {B : Type 0} → (B → Params → BodyMeaning) → (B → Params → Bool) → Schedule → DeferredValue → StateValue → Ready → DeferredValue → StateValue → Step → Type 0
TakesOffered {B} meaning fits s deferred w offer deferred_later later step = (there : Bool) (width : ℕ) (sets : Option (List (List ℕ))) (bodies : List BodyMeaning) (start : State) (h : List Step) (slots : List (Option B)) (out : List (JobOut B)) →
    IsOffered meaning fits there width s sets bodies start h slots deferred out w offer → IsTaken meaning fits there width s sets bodies start h slots deferred_later out later step

-- what a stop means, wherever this is ready
abbrev pub StopsOffered : {B : Type 0} → (B → Params → BodyMeaning) → (B → Params → Bool) → Schedule → DeferredValue → StateValue → Ready → Stop → Type 0
StopsOffered {B} meaning fits s deferred w offer told = (there : Bool) (width : ℕ) (sets : Option (List (List ℕ))) (bodies : List BodyMeaning) (start : State) (h : List Step) (slots : List (Option B)) (out : List (JobOut B)) →
    IsOffered meaning fits there width s sets bodies start h slots deferred out w offer → StopsBy there (WideStops width s bodies start) told
