use Rattle.std.proofs.Common.{ℕ, List, Option, drop}
use Rattle.model.specs.declared.steps.Step.{Step}
use Rattle.model.specs.declared.steps.Ready.{Ready}
use Rattle.model.specs.steps.Schedule.{recording}
use Rattle.model.specs.steps.Ready.{IsReadyAmong, IsReady}
use Rattle.executor_core.specs.Stands.{Stands}
use Rattle.executor_core.proofs.executor.Core.first_offer.Given as goal

abbrev pub invariant-loop-place : goal.invariant-loop-place
invariant-loop-place l = (sets : Option (List (List ℕ))) (h : List Step) → Stands l.self sets h → (r : Option Ready) →
    IsReadyAmong (recording l.self.schedule sets) h (drop l.place l.self.schedule.order) r → IsReady (recording l.self.schedule sets) h r
