use Rattle.lints.specs.Lints.{IsOfRegister}
use Rattle.lints.proofs.Growing.{adds_both, adds_tested}
use Rattle.lints.proofs.system.add_of_register.Goals as goal

pub returns : goal.returns
unfolding IsOfRegister
returns c = adds_both _ _ _ _ _ (adds_tested _ _ _ _ _ c.is_unset_register-is_unset.ensures c.in_ok-add_where.ensures) (adds_tested _ _ _ _ _ c.is_unread_register-is_unread.ensures c.in_ok-add_where-2.ensures)
