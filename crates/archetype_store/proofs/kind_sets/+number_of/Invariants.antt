use Rattle.archetype_store.proofs.Common.{length}
use Rattle.archetype_store.proofs.kind_sets.+number_of.Given as goal

abbrev pub decreases-number_of : goal.decreases-number_of
decreases-number_of l = length l.kinds.now
