use Rattle.column_store.proofs.Common.{map, sym, ap, subst, ◌∙◌, TableValue, OrdersRows}
use Rattle.column_store.proofs.ColumnRows.{entities-rows_of}
use Rattle.column_store.proofs.table.Table.order.Goals as goal

pub returns : goal.returns
returns c =
    subst (λ es. OrdersRows es c.order.result)
    (sym (entities-rows_of c.self.inside.entities.list c.self.inside.columns.slots.items) ∙ ap (λ (t : TableValue). map (λ row. row.entity) t.rows) c.self.view_is)
    c.order.ensures
