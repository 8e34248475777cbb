use Rattle.column_store.proofs.Common.{length}
use Rattle.column_store.proofs.column_slot.+replace_row.Given as goal

abbrev pub decreases-replace_row : goal.decreases-replace_row
decreases-replace_row l = length l.columns.now
