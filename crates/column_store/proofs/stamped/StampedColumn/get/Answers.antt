use Rattle.column_store.proofs.Common.{Some, slice_get, option_map, length, sym, ap, ◌∙◌, widths, Cell, ColumnCells}
use Rattle.column_store.proofs.Cells.{words-cells_of}
use Rattle.column_store.proofs.stamped.StampedColumn.get.Goals as goal

pub returns : goal.returns
returns g c =
    let width = ap length c.as_slice.ensures ∙ c.fields.ensures.width ∙ ap widths (ap (λ (v : ColumnCells). v.kind) c.self.view_is ∙ c.requires.kind) ∙ g.met.C.Component.width_of_number in
    ap (λ (v : ColumnCells). option_map (λ (x : Cell). x.words) (slice_get v.cells c.args.place)) (sym c.self.view_is)
    ∙ words-cells_of c.self.inside.column.words c.self.inside.stamps.items c.args.place c.fields.result c.self.invariant c.fields.ensures.words
    ∙ ap Some (sym (ap g.C.Component.words c.from_words.ensures ∙ g.met.C.Component.round_trip_words _ width ∙ c.as_slice.ensures))
