use Rattle.std.proofs.Common.{length}
use Rattle.body.proofs.same_terms.+same_terms.Given as goal

abbrev pub decreases-same_terms : goal.decreases-same_terms
decreases-same_terms l = length l.terms.now
