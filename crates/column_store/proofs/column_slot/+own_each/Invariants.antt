use Rattle.column_store.proofs.Common.{length}
use Rattle.column_store.proofs.column_slot.+own_each.Given as goal

abbrev pub decreases-own_each : goal.decreases-own_each
decreases-own_each l = length l.columns.now
