use Rattle.lints.specs.Collected.{Adds, Among}
use Rattle.lints.specs.Lints.{IsOfBlocks}
use Rattle.lints.proofs.blocks.add_of_blocks.Given as goal

-- what is found of the numbers so far is added
abbrev pub invariant-loop-block : goal.invariant-loop-block
invariant-loop-block l = Adds (Among l.block (IsOfBlocks l.blocks l.system)) l.initial.found.items l.found.items
