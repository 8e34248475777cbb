use Rattle.lints.specs.Lints.{IsOfInstruction}
use Rattle.lints.proofs.Growing.{adds_both, adds_told}
use Rattle.lints.proofs.blocks.add_of_instruction.Goals as goal

pub returns : goal.returns
unfolding IsOfInstruction
returns c = adds_both _ _ _ _ _ (adds_told _ _ _ _ _ c.is_unreachable-is.ensures c.in_ok-add_where.ensures) c.in_ok-add_of_pairs.ensures
