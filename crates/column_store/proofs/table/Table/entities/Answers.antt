use Rattle.column_store.proofs.Common.{map, sym, ap, ◌∙◌, TableValue}
use Rattle.column_store.proofs.ColumnRows.{entities-rows_of}
use Rattle.column_store.proofs.table.Table.entities.Goals as goal

pub returns-clause-entities : goal.returns-clause-entities
returns-clause-entities c =
    c.as_slice.ensures.entities ∙ sym (entities-rows_of c.self.inside.entities.list c.self.inside.columns.slots.items)
    ∙ ap (λ (t : TableValue). map (λ row. row.entity) t.rows) c.self.view_is
