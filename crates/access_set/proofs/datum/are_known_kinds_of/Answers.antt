use Rattle.std.proofs.Common.{subst}
use Rattle.access_set.specs.Datum.{AreKnownKinds}
use Rattle.access_set.proofs.Least.{known_kinds}
use Rattle.access_set.proofs.datum.are_known_kinds_of.Goals as goal

pub returns : goal.returns
returns c = subst AreKnownKinds c.terms.ensures (known_kinds c.prove_kinds_apart.ensures.below c.terms.result.now)
