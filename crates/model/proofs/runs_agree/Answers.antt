use Rattle.model.proofs.runs_agree.Goals as goal
use Rattle.model.proofs.agreement.SerialRuns.{runs_agree}

pub returns : goal.returns
returns c = runs_agree
