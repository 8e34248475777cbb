use Rattle.model.specs.steps.Schedule.{recording}
use Rattle.executor_core.proofs.Telling.{tells_may}
use Rattle.executor_core.proofs.executor.Core.may.Goals as goal

pub returns-clause-accepts : goal.returns-clause-accepts
returns-clause-accepts c = λ sets h stands. tells_may (recording c.args.self.now.schedule sets) h c.args.step c.judge.result stands.lawful (c.judge.ensures.judged sets h stands)
