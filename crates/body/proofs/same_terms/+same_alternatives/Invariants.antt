use Rattle.std.proofs.Common.{length}
use Rattle.body.proofs.same_terms.+same_alternatives.Given as goal

abbrev pub decreases-same_alternatives : goal.decreases-same_alternatives
decreases-same_alternatives l = length l.alternatives.now
