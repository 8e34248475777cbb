use Rattle.std.proofs.Common.{arith}
use Rattle.lints.proofs.Growing.{adds_next, adds_no_number, adds_upto}
use Rattle.lints.proofs.system.add_of_registers.Goals as goal

pub loop-register-init : goal.loop-register-init
loop-register-init c = adds_no_number _ _

pub loop-register-preserved : goal.loop-register-preserved
loop-register-preserved c = adds_next _ _ _ _ _ c.loop-register.invariant c.in_ok-add_of_register.ensures

pub returns : goal.returns
returns c = adds_upto _ _ _ _ _ (omega arith) c.loop-register.invariant
