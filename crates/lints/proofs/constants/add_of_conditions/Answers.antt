use Rattle.std.proofs.Common.{arith}
use Rattle.lints.proofs.Growing.{adds_next, adds_no_number, adds_upto}
use Rattle.lints.proofs.constants.add_of_conditions.Goals as goal

pub loop-condition-init : goal.loop-condition-init
loop-condition-init c = adds_no_number _ _

pub loop-condition-preserved : goal.loop-condition-preserved
loop-condition-preserved c = adds_next _ _ _ _ _ c.loop-condition.invariant c.in_ok-add_of_condition.ensures

pub returns : goal.returns
returns c = adds_upto _ _ _ _ _ (omega arith) c.loop-condition.invariant
