use Rattle.column_store.proofs.Made.{numbers_in_order}
use Rattle.column_store.proofs.columns.Columns.new.Goals as goal

pub returns-clause-kinds : goal.returns-clause-kinds
returns-clause-kinds c = numbers_in_order c.every.result.now c.args.kinds.now c.in_ok-kinds.kinds.items c.every.ensures c.in_ok-kinds.ensures
