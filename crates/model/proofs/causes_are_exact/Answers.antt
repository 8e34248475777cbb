use Rattle.model.proofs.faults.Causes.{causes-exact}
use Rattle.model.proofs.causes_are_exact.Goals as goal

pub returns : goal.returns
returns c = causes-exact
