use Rattle.std.proofs.Common.{rules, subst}
use Rattle.std.specs.List.{AllZip}
use Rattle.program_file.specs.Tables.{IsCodeOf, IsRead}
use Rattle.program_file.specs.declared.program_file.BlockTexts.{BlockTexts}
use Rattle.program_file.proofs.Blocks.{zip-take}
use Rattle.program_file.proofs.Refusals.{NoneIs-exit, zip-refused}
use Rattle.program_file.proofs.program_file.read_blocks.Goals as goal

-- the next block is read
pub loop-block-preserved : goal.loop-block-preserved
loop-block-preserved c =
    zip-take IsRead c.args.blocks.now c.loop-block.block-index c.block-item.result c.loop-block.read.items _ c.in_ok-read_block.field-0 (search rules)
    c.loop-block-test.true c.loop-block.invariant (subst (λ (texts : BlockTexts). IsRead texts c.in_ok-read_block.field-0) c.block-item.is c.in_ok-read_block.ensures.ok)

-- a block has no code
pub returns-in_err-read_block-clause-refused : goal.returns-in_err-read_block-clause-refused
returns-in_err-read_block-clause-refused c =
    NoneIs-exit (AllZip IsCodeOf c.args.blocks.now) c.from_residual.result c.in_err-read_block.field-0.0 c.from_residual.ensures.1
    (zip-refused IsCodeOf c.args.blocks.now c.loop-block.block-index c.block-item.result c.block-item.result c.in_err-read_block.field-0.0 c.loop-block-test.true c.block-item.is c.in_err-read_block.ensures.refused)
