use Rattle.lints.specs.Lints.{IsOfPair}
use Rattle.lints.proofs.Growing.{adds_tested}
use Rattle.lints.proofs.blocks.add_of_pair.Goals as goal

pub returns : goal.returns
unfolding IsOfPair
returns c = (adds_tested _ _ _ _ _ c.crosses-is.ensures c.in_ok-add_where.ensures)
