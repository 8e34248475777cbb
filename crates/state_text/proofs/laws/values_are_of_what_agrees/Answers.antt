use Rattle.std.proofs.Common.{ap}
use Rattle.sha2.specs.Sha256.{sha256}
use Rattle.state_text.proofs.Unstamped.{values_alike}
use Rattle.state_text.proofs.laws.values_are_of_what_agrees.Goals as goal

pub returns-clause-values : goal.returns-clause-values
returns-clause-values c = values_alike

pub returns-clause-digests : goal.returns-clause-digests
returns-clause-digests c s v w agree = ap sha256 (values_alike v w agree.same)
