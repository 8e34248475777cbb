use Rattle.std.proofs.Common.{arith}
use Rattle.lints.proofs.Growing.{adds_next, adds_no_number, adds_upto}
use Rattle.lints.proofs.blocks.add_of_code.Goals as goal

pub loop-place-init : goal.loop-place-init
loop-place-init c = adds_no_number _ _

pub loop-place-preserved : goal.loop-place-preserved
loop-place-preserved c = adds_next _ _ _ _ _ c.loop-place.invariant c.in_ok-add_of_instruction.ensures

pub returns : goal.returns
returns c = adds_upto _ _ _ _ _ (omega arith) c.loop-place.invariant
