use Rattle.std.proofs.Common.{take}
use Rattle.std.specs.List.{AllZip}
use Rattle.program_file.specs.Tables.{IsRead}
use Rattle.program_file.proofs.program_file.read_blocks.Given as goal

-- the blocks so far are read
abbrev pub invariant-loop-block : goal.invariant-loop-block
invariant-loop-block l = AllZip IsRead (take l.block-index l.blocks) l.read.items
