use Rattle.archetype_store.proofs.Common.{length}
use Rattle.archetype_store.proofs.table_index.+word_of.Given as goal

abbrev pub decreases-word_of : goal.decreases-word_of
decreases-word_of l = length l.components.now
