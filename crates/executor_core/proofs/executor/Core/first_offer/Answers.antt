use Rattle.std.proofs.Common.{arith}
use Rattle.executor_core.proofs.Telling.{ready_from}
use Rattle.executor_core.proofs.executor.Core.first_offer.Goals as goal

pub loop-place-init : goal.loop-place-init
loop-place-init c = λ sets h stands r rest. ready_from c.args.self.now sets h r stands c.from-place.result (omega arith) rest
