use Rattle.column_store.proofs.Common.{swap_out_in}
use Rattle.column_store.proofs.Turns.{none-mapped}
use Rattle.column_store.proofs.column_slot.+swap_remove_row.Goals as goal

pub returns-in_default : goal.returns-in_default
returns-in_default t c = none-mapped (swap_out_in c.args.row) c.args.columns.now c.in_default.ensures.cases
