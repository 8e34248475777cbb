use Rattle.std.proofs.Common.{Err}
use Rattle.model.specs.steps.Schedule.{recording}
use Rattle.executor_core.proofs.Telling.{tells_may}
use Rattle.executor_core.proofs.executor.Core.step.Goals as goal

pub returns-in-Err-clause-accepts : goal.returns-in-Err-clause-accepts
returns-in-Err-clause-accepts c = λ sets h stands. tells_may (recording c.args.self.now.schedule sets) h c.args.step (Err c.in-Err.fault) stands.lawful (c.in-Err.ensures.judged sets h stands)
