use Rattle.column_store.proofs.Common.{◌<◌, length, get_or, sym, ap, subst, ◌∙◌, zero-add, arith, rows_in}
use Rattle.column_store.proofs.Ordered.{length-numbers, numbers-at}
use Rattle.column_store.proofs.row_order.RowOrder.row.Goals as goal

pub overflow_cast-result : goal.overflow_cast-result
overflow_cast-result c =
    let below : c.args.at < c.args.count = subst (λ n. c.args.at < n) (ap (λ order. length (rows_in c.args.count order)) c.in-Rising.is ∙ length-numbers 0 c.args.count) c.requires in
    omega arith

pub returns-in-Rising : goal.returns-in-Rising
returns-in-Rising c =
    let below : c.args.at < c.args.count = subst (λ n. c.args.at < n) (ap (λ order. length (rows_in c.args.count order)) c.in-Rising.is ∙ length-numbers 0 c.args.count) c.requires in
    sym (ap (λ order. get_or (rows_in c.args.count order) c.args.at 0) c.in-Rising.is ∙ numbers-at 0 c.args.count c.args.at 0 below ∙ zero-add c.args.at)
