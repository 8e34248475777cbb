use Rattle.column_store.proofs.Common.{sym, ap, ◌∙◌, kind_number, TableValue, cell_in_row, standing_of}
use Rattle.column_store.proofs.table.Table.column.Goals as goal

pub returns-in-None : goal.returns-in-None
returns-in-None c =
    let es = c.self.inside.entities.list in
    let ps = c.self.inside.columns.slots.items in
    let k = kind_number c.args.kind in
    record {
      standing = ap (λ (t : TableValue). standing_of t k) (sym c.self.view_is) ∙ c.in-None.ensures.standing es ps;
      cell = λ row. ap (λ (t : TableValue). cell_in_row t row k) (sym c.self.view_is) ∙ c.in-None.ensures.cell es ps row;
    }
