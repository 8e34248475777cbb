use Rattle.std.proofs.Common.{arith}
use Rattle.lints.proofs.Growing.{adds_next, adds_no_number, adds_upto}
use Rattle.lints.proofs.file.add_of_chains.Goals as goal

pub loop-number-init : goal.loop-number-init
loop-number-init c = adds_no_number _ _

pub loop-number-preserved : goal.loop-number-preserved
loop-number-preserved c = adds_next _ _ _ _ _ c.loop-number.invariant c.in_ok-add_of_chain.ensures

pub returns : goal.returns
returns c = adds_upto _ _ _ _ _ (omega arith) c.loop-number.invariant
