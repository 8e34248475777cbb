use Rattle.lints.proofs.Growing.{adds_both, adds_tested}
use Rattle.lints.proofs.constants.add_of_answer.Goals as goal

pub returns : goal.returns
returns c = adds_both _ _ _ _ _ (adds_tested _ _ _ _ _ c.says_yes.ensures c.in_ok-add_where.ensures) (adds_tested _ _ _ _ _ c.says_no.ensures c.in_ok-add_where-2.ensures)
