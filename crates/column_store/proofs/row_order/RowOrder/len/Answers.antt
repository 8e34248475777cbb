use Rattle.column_store.proofs.Common.{length, sym, ap, ◌∙◌, rows_in}
use Rattle.column_store.proofs.Ordered.{length-numbers}
use Rattle.column_store.proofs.row_order.RowOrder.len.Goals as goal

pub returns-in-Rising : goal.returns-in-Rising
returns-in-Rising c = sym (ap (λ order. length (rows_in c.args.count order)) c.in-Rising.is ∙ length-numbers 0 c.args.count)
