use Rattle.script.proofs.Within.{keep-within, keep-within-shown}
use Rattle.script.proofs.scripts_keep_within.Goals as goal

pub returns-clause-within : goal.returns-clause-within
returns-clause-within c = keep-within

pub returns-clause-shown : goal.returns-clause-shown
returns-clause-shown c = keep-within-shown
