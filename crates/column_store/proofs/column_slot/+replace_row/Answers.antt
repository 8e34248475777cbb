use Rattle.column_store.proofs.Kept.{replace_all-none}
use Rattle.column_store.proofs.column_slot.+replace_row.Goals as goal

pub returns-in_default : goal.returns-in_default
returns-in_default t c = replace_all-none c.args.row c.args.columns.now c.args.components.now c.in_default.ensures.cases
