use Rattle.column_store.proofs.Common.{length}
use Rattle.column_store.proofs.column_slot.+push_row.Given as goal

abbrev pub decreases-push_row : goal.decreases-push_row
decreases-push_row l = length l.columns.now
