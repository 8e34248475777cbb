use Rattle.column_store.proofs.Common.{map, sym, ap, ◌∙◌, TableRow, TableValue}
use Rattle.std.proofs.lemmas.Result.{IfOk-weaker}
use Rattle.column_store.proofs.ColumnRows.{entities-rows_of}
use Rattle.column_store.proofs.table.Table.share_entities.Goals as goal

pub returns-clause-entities : goal.returns-clause-entities
returns-clause-entities c =
    let theirs = sym (entities-rows_of c.self.inside.entities.list c.self.inside.columns.slots.items) ∙ ap (λ (t : TableValue). map (λ (row : TableRow). row.entity) t.rows) c.self.view_is in
    IfOk-weaker c.share.result _ _ (λ list is. is ∙ theirs) c.share.ensures.shared
