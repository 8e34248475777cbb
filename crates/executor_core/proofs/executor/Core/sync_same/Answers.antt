use Rattle.std.proofs.Common.{Some, Err}
use Rattle.model.specs.declared.steps.Step.TheVariants.{Sync}
use Rattle.model.specs.steps.Schedule.{recording}
use Rattle.executor_core.proofs.Telling.{tells_may}
use Rattle.executor_core.proofs.AcceptedSteps.{stands_same}
use Rattle.executor_core.proofs.executor.Core.sync_same.Goals as goal

pub returns-in-Err-clause-accepts : goal.returns-in-Err-clause-accepts
returns-in-Err-clause-accepts c = λ lists h stands. tells_may (recording c.args.self.now.schedule lists) h (Sync c.args.sync) (Err c.in-Err.fault) stands.lawful (c.in-Err.ensures.judged lists h stands)

pub returns-clause-stands : goal.returns-clause-stands
returns-clause-stands c = λ lists h stands.
    stands_same c.args.self.now c.pass_sync.new.self lists h c.args.sync stands (c.in_default.ensures.judged (Some lists) h stands) c.pass_sync.ensures
