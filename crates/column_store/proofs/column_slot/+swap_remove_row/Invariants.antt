use Rattle.column_store.proofs.Common.{length}
use Rattle.column_store.proofs.column_slot.+swap_remove_row.Given as goal

abbrev pub decreases-swap_remove_row : goal.decreases-swap_remove_row
decreases-swap_remove_row l = length l.columns.now
