use Rattle.executor_core.proofs.Known.{known_step}
use Rattle.executor_core.proofs.executor.Core.accept.Goals as goal

pub take-requires : goal.take-requires
take-requires c = known_step c.args.self.now c.requires.0 c.requires.1 c.args.step c.requires.2 c.requires.3
