use Rattle.column_store.proofs.Common.{length}
use Rattle.column_store.proofs.column_slot.+reserve_rows.Given as goal

abbrev pub decreases-reserve_rows : goal.decreases-reserve_rows
decreases-reserve_rows l = length l.columns.now
