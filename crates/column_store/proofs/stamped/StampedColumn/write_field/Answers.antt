use Rattle.column_store.proofs.Common.{ap, ◌∙◌, widths, ColumnCells, with_field_cells}
use Rattle.column_store.proofs.Fields.{written-view, written-lengths}
use Rattle.column_store.proofs.stamped.StampedColumn.write_field.Goals as goal

pub invariant_of-self : goal.invariant_of-self
invariant_of-self c =
    written-lengths c.self.inside.column c.write_field.new.self c.self.inside.stamps.items c.mark_changed.new.stamps.items (widths c.self.inside.column.kind) c.args.tick c.args.field c.args.from c.args.values.now
    c.write_field.ensures c.mark_changed.ensures.stamps c.self.invariant

pub returns : goal.returns
returns c =
    written-view c.self.inside.column c.write_field.new.self c.self.inside.stamps.items c.mark_changed.new.stamps.items _ _ (widths c.self.inside.column.kind) c.args.tick c.args.field c.args.from c.args.values.now
    c.write_field.ensures c.mark_changed.ensures.stamps c.mark_changed.ensures.room
    ∙ ap (λ (v : ColumnCells). let written : ColumnCells = record { kind = v.kind; cells = with_field_cells (widths v.kind) c.args.tick c.args.field c.args.from c.args.values.now v.cells; room = v.room } in written) c.self.view_is
