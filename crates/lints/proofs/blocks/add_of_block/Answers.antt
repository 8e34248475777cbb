use Rattle.lints.proofs.Growing.{adds_both, adds_tested}
use Rattle.lints.proofs.blocks.add_of_block.Goals as goal

pub returns : goal.returns
returns c = rw (← c.as_slice-code.ensures.value) (adds_both _ _ _ _ _ (adds_tested _ _ _ _ _ c.is_empty.ensures c.in_ok-add_where.ensures) c.in_ok-add_of_code.ensures)
