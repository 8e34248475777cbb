use Rattle.column_store.proofs.Kept.{push_all-none}
use Rattle.column_store.proofs.column_slot.+push_row.Goals as goal

pub returns-in_default : goal.returns-in_default
returns-in_default t c = push_all-none c.args.columns.now c.args.components.now c.requires c.in_default.ensures.cases
