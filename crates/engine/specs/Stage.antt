-- Where a run stands between two turns.
use Rattle.std.specs.Prelude.{ℕ, Bool, ◌<◌, ◌≤◌, ◌≡◌, ◌⊎◌, List, length, Option, Some, None}
use Rattle.model.specs.declared.steps.Step.{Step}
use Rattle.model.specs.declared.steps.Step.TheVariants.{Cond, Start, Skip, Finish, Sync}
use Rattle.model.specs.declared.steps.Ready.{Ready}
use Rattle.model.specs.state.State.{State}
use Rattle.model.specs.state.KindSets.{kind_sets_of}
use Rattle.model.specs.shown.Outcome.{BodyMeaning}
use Rattle.model.specs.steps.Schedule.{Schedule}
use Rattle.model.specs.steps.Lawful.{May, NoneRuns, IsComplete}
use Rattle.model.specs.steps.Ready.{IsReady, step_of}
use Rattle.model.specs.steps.Widths.{IsWide, running_after}
use Rattle.model.specs.runs.Meaning.{interleaved, HasTrueAnswers, HasTrueSets}
use Rattle.executor_core.specs.Traces.{with_list}
use Rattle.worker_pool.specs.JobOut.{JobOut}
use Rattle.engine.specs.Jobs.{woven}
use Rattle.engine.specs.Deferred.{DeferredValue}
use Rattle.engine.specs.declared.turn.Turn.{Turn}
use Rattle.engine.specs.declared.turn.Turn.TheVariants as turn

-- after this history as many systems run as jobs are out, and the interleaved meaning is this state with what is deferred and these jobs out
pub record Stage {B : Type 0} (width : ℕ) (s : Schedule) (bodies : List BodyMeaning) (start : State) (h : List Step) (state : State) (deferred : DeferredValue) (out : List (JobOut B)) : Type 0 where
  pub wide : IsWide width s h
  pub running : length (running_after h) ≡ length out
  pub room : length out ≤ width
  pub answers : HasTrueAnswers s bodies start h
  pub sets : HasTrueSets s bodies start h
  pub meaning : interleaved s bodies start h ≡ Some (woven state deferred out)

-- what is recorded of kind sets once a step has led to this state: after a sync point those of the living entities too
abbrev pub sets_after : Step → State → Option (List (List ℕ)) → Option (List (List ℕ))
sets_after (Cond c answer) w sets = sets
sets_after (Start n) w sets = sets
sets_after (Skip n) w sets = sets
sets_after (Finish n) w sets = sets
sets_after (Sync k) w sets = with_list (kind_sets_of w.world.slots) sets

-- there is room for one more running system, and this is what is ready, and may come whatever a condition answers
pub record IsTake (s : Schedule) (h : List Step) (running width : ℕ) (offer : Ready) : Type 0 where
  pub room : running < width
  pub is : IsReady s h (Some offer)
  pub allowed : (answer : Bool) → May s h (step_of offer answer)

-- what is next: what is ready where there is room, else a job that comes back, and none where nothing is ready and nothing runs
abbrev pub IsTurn : Schedule → List Step → ℕ → ℕ → Option Turn → Type 0
IsTurn s h running width None = (running ≡ 0) × (NoneRuns h → IsComplete s h)
IsTurn s h running width (Some (turn.Take offer)) = IsTake s h running width offer
IsTurn s h running width (Some turn.Collect) = (0 < running) × ((running ≡ width) ⊎ IsReady s h None)
