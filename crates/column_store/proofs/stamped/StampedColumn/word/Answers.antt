use Rattle.column_store.proofs.Common.{slice_get, option_map, Some, sym, ap, ◌∙◌, to_z-of_z, word_at, Cell, ColumnCells}
use Rattle.column_store.proofs.Cells.{word-cells_of}
use Rattle.column_store.proofs.stamped.StampedColumn.word.Goals as goal

pub returns : goal.returns
returns c =
    ap (λ (column : ColumnCells). option_map (λ (x : Cell). word_at x.words c.args.field) (slice_get column.cells c.args.place)) (sym c.self.view_is)
    ∙ word-cells_of c.self.inside.column.words c.self.inside.stamps.items c.args.place c.args.field c.self.invariant
    ∙ c.word.ensures ∙ ap Some (search to_z-of_z)
