use Rattle.std.proofs.Common.{take}
use Rattle.std.specs.List.{AllZip}
use Rattle.toml.specs.View.{table_view}
use Rattle.program_file.specs.Tables.{IsBlockTextsIn}
use Rattle.program_file.proofs.program_file.blocks_of.Given as goal

-- the blocks so far
abbrev pub invariant-loop-block : goal.invariant-loop-block
invariant-loop-block l = AllZip (λ inner block. IsBlockTextsIn (table_view inner.now) block) (take l.block-index l.block-items) l.blocks.items
