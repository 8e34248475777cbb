use Rattle.column_store.proofs.Common.{◌≡◌, ◌<◌, true, length, map, option_map, sym, ap, subst, ◌∙◌, list_all, AllByRecursion, slice_get, on_ok_weaker, kind_number, TableValue, TableRow, is_home, cell_at, HoldsRow}
use Rattle.column_store.proofs.ColumnRows.{length-rows_of}
use Rattle.column_store.proofs.Edited.{all_home, held_rows, read_row_is}
use Rattle.column_store.proofs.table.Table.read.Goals as goal

pub read_row-requires : goal.read_row-requires
read_row-requires c =
    let es = c.self.inside.entities.list in
    let ps = c.self.inside.columns.slots.items in
    let within = subst (λ n. c.args.row < n) (ap (λ (t : TableValue). length t.rows) (sym c.self.view_is) ∙ length-rows_of es ps) c.requires.within in
    let stand = subst (λ (t : TableValue). list_all is_home t.standings ≡ true) (sym c.self.view_is) c.requires.home in
    subst (AllByRecursion (HoldsRow c.args.row)) (sym c.deref.ensures.value) (held_rows (length es) c.args.row ps within c.self.invariant.kept.table.of_length (all_home ps stand))

pub returns-clause-cells : goal.returns-clause-cells
returns-clause-cells c =
    let ns = map kind_number c.self.inside.columns.kinds.items in
    let es = c.self.inside.entities.list in
    let ps = c.self.inside.columns.slots.items in
    let within = subst (λ n. c.args.row < n) (ap (λ (t : TableValue). length t.rows) (sym c.self.view_is) ∙ length-rows_of es ps) c.requires.within in
    on_ok_weaker c.read_row.result
    (λ read. sym (ap (λ (t : TableValue). option_map (λ (row : TableRow). row.cells) (slice_get t.rows c.args.row)) c.self.view_is)
    ∙ read_row_is ns es ps c.args.row c.read_row.new.components.items within (read ∙ ap (map (cell_at c.args.row)) c.deref.ensures.value))
    c.read_row.ensures.cells
