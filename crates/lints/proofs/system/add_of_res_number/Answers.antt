use Rattle.lints.specs.Lints.{IsOfResources}
use Rattle.lints.proofs.system.add_of_res_number.Goals as goal

pub returns : goal.returns
unfolding IsOfResources
returns c = rw (← c.res_at.ensures) c.in_ok-add_of_res.ensures
