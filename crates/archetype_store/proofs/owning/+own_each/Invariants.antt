use Rattle.archetype_store.proofs.Common.{length}
use Rattle.archetype_store.proofs.owning.+own_each.Given as goal

abbrev pub decreases-own_each : goal.decreases-own_each
decreases-own_each l = length l.tables.now
