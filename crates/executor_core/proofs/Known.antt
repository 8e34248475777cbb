-- A step that may come names what the schedule has.
use Rattle.std.specs.Prelude.{ℕ, List, Option}
use Rattle.model.specs.declared.steps.Step.{Step}
use Rattle.model.specs.declared.steps.Step.TheVariants.{Cond, Start, Skip, Finish, Sync}
use Rattle.model.specs.steps.Schedule.{recording}
use Rattle.model.specs.steps.Lawful.{May}
use Rattle.model.proofs.order.Histories.{runs_known}
use Rattle.executor_core.specs.Stands.{Stand, Stands}
use Rattle.executor_core.specs.Judges.{IsKnown}

pub known_step : (core : Stand) (sets : Option (List (List ℕ))) (h : List Step) (step : Step) → Stands core sets h → May (recording core.schedule sets) h step → IsKnown core.schedule step
known_step core sets h (Cond c answer) stands may = may.known
known_step core sets h (Start n) stands may = may.free.known
known_step core sets h (Skip n) stands may = may.free.known
known_step core sets h (Finish n) stands may = runs_known (recording core.schedule sets) h n stands.lawful may.running
known_step core sets h (Sync k) stands may = may.known
