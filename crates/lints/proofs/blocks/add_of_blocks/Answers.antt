use Rattle.std.proofs.Common.{arith}
use Rattle.lints.specs.Lints.{IsOfBlocks, IsOfBlock}
use Rattle.lints.proofs.Growing.{adds_at, adds_next, adds_no_number, adds_upto}
use Rattle.lints.proofs.blocks.add_of_blocks.Goals as goal

pub loop-block-init : goal.loop-block-init
loop-block-init c = adds_no_number _ _

pub loop-block-preserved : goal.loop-block-preserved
unfolding IsOfBlocks
loop-block-preserved c = adds_next _ _ _ _ _ c.loop-block.invariant
    (adds_at (λ block. IsOfBlock block.code.items c.args.system c.loop-block.block) c.args.blocks.now c.loop-block.block c.index-blocks-block.result _ _ (omega arith) c.index-blocks-block.is c.in_ok-add_of_block.ensures)

pub returns : goal.returns
returns c = adds_upto _ _ _ _ _ (omega arith) c.loop-block.invariant
