-- A condition's answer depends only on what it is asked about.
use Rattle.std.proofs.Common.{◌≡◌, ℕ, not, ◌||◌, ◌&&◌, List, refl, ap, ap₂}
use Rattle.model.specs.state.State.{State}
use Rattle.model.specs.access.Condition.{Condition, holds, asked, means, cursors_after}
use Rattle.model.specs.access.Condition.Condition.{RunOnce, ResourceEquals, ResourceAtLeast, ResourceChanged, AnyWith, OnEvent, Not, And, Or}
use Rattle.model.specs.steps.Schedule.{Schedule, condition_of}
use Rattle.model.specs.runs.RunState.{RunState, memory_of_condition, asked_of, answer_of}

-- a condition holds where it means so on what it is asked about
pub holds-means : (c : Condition) (last : ℕ) (cursors : List ℕ) (w : State) → holds c last cursors w ≡ means c (asked c last cursors w)
holds-means RunOnce last cursors w = refl
holds-means (ResourceEquals n v) last cursors w = refl
holds-means (ResourceAtLeast n v) last cursors w = refl
holds-means (ResourceChanged n) last cursors w = refl
holds-means (AnyWith q) last cursors w = refl
holds-means (OnEvent k) last cursors w = refl
holds-means (Not c) last cursors w = ap not (holds-means c last cursors w)
holds-means (And c d) last cursors w = ap₂ ◌&&◌ (holds-means c last cursors w) (holds-means d last (cursors_after c cursors) w)
holds-means (Or c d) last cursors w = ap₂ ◌||◌ (holds-means c last cursors w) (holds-means d last (cursors_after c cursors) w)

-- the same of a schedule's condition in a run state
pub answer_of-means : (s : Schedule) (c : ℕ) (run : RunState) → answer_of s c run ≡ means (condition_of s c) (asked_of s c run)
unfolding answer_of asked_of
answer_of-means s c run = holds-means (condition_of s c) (memory_of_condition run.state c).last_run (memory_of_condition run.state c).cursors run.state
