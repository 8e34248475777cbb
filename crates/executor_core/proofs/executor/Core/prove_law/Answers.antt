use Rattle.model.proofs.progress.Ends.{lists_end}
use Rattle.model.specs.steps.Schedule.{recording}
use Rattle.executor_core.proofs.executor.Core.prove_law.Goals as goal

pub returns-clause-bound : goal.returns-clause-bound
returns-clause-bound c = λ sets h stands. lists_end (recording c.args.self.now.schedule sets) h stands.lawful
