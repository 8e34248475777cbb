use Rattle.std.proofs.Common.{arith}
use Rattle.lints.proofs.Growing.{adds_next, adds_no_number, adds_upto}
use Rattle.lints.proofs.blocks.add_of_pairs.Goals as goal

pub loop-second-init : goal.loop-second-init
loop-second-init c = adds_no_number _ _

pub loop-second-preserved : goal.loop-second-preserved
loop-second-preserved c = adds_next _ _ _ _ _ c.loop-second.invariant c.in_ok-add_of_pair.ensures

pub returns : goal.returns
returns c = adds_upto _ _ _ _ _ (omega arith) c.loop-second.invariant
