use Rattle.column_store.proofs.Common.{◌+◌, slice_get, option_map, sym, ap, ◌∙◌, word_at, Cell, ColumnCells}
use Rattle.column_store.proofs.Cells.{word-cells_of}
use Rattle.column_store.proofs.stamped.StampedColumn.read_field.Goals as goal

pub returns-clause-values : goal.returns-clause-values
returns-clause-values c = λ i l.
    ap (λ (column : ColumnCells). option_map (λ (x : Cell). word_at x.words c.args.field) (slice_get column.cells (c.args.from + i))) (sym c.self.view_is)
    ∙ word-cells_of c.self.inside.column.words c.self.inside.stamps.items (c.args.from + i) c.args.field c.self.invariant
    ∙ c.read_field.ensures.values i l
