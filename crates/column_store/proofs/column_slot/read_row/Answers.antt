use Rattle.column_store.proofs.Common.{◌≡◌, ◌+◌, ◌≤◌, List, [], length, map, slice_get, Some, ap, subst, sym, ◌∙◌, length_push, stamped_number, stamped_cell, StampedValue, ColumnCells, ColumnSlotValue, cell_at, kind_in}
use Rattle.model.proofs.lists.Turns.{copied_next}
use Rattle.column_store.proofs.Turns.{all_seen}
use Rattle.column_store.proofs.column_slot.read_row.Goals as goal

pub loop-column-preserved : goal.loop-column-preserved
loop-column-preserved c = record {
  cells =
      copied_next (λ (s : StampedValue). Some (stamped_cell s)) (cell_at c.args.row) c.args.columns.now c.loop-column.column-index c.column-item.result [] c.loop-column.components.items
      c.push_reserved.new.self.items c.at.result
      c.loop-column-test.true c.loop-column.invariant.cells (sym c.at.ensures.cell ∙ ap (λ (x : ColumnCells). slice_get x.cells c.args.row) c.seen.ensures ∙ ap (cell_at c.args.row) c.column-item.is) c.push_reserved.ensures.items;
  kinds =
      copied_next stamped_number kind_in c.args.columns.now c.loop-column.column-index c.column-item.result [] c.loop-column.components.items c.push_reserved.new.self.items c.at.result
      c.loop-column-test.true c.loop-column.invariant.kinds (c.at.ensures.number ∙ ap (λ (x : ColumnCells). x.kind) c.seen.ensures ∙ ap kind_in c.column-item.is) c.push_reserved.ensures.items;
  many = ap length c.push_reserved.ensures.items ∙ length_push c.loop-column.components.items c.at.result ∙ ap (λ n. n + 1) c.loop-column.invariant.many;
  room = subst (λ n. length c.args.columns.now ≤ n) (sym c.push_reserved.ensures.capacity) c.loop-column.invariant.room;
}

pub returns-clause-cells : goal.returns-clause-cells
returns-clause-cells c =
    all_seen (λ (ps : List ColumnSlotValue). map (λ (s : StampedValue). Some (stamped_cell s)) c.loop-column.components.items ≡ map (cell_at c.args.row) ps) c.args.columns.now
    c.loop-column.column-index
    c.loop-column-test.false c.loop-column.invariant.cells

pub returns-clause-kinds : goal.returns-clause-kinds
returns-clause-kinds c =
    all_seen (λ (ps : List ColumnSlotValue). map stamped_number c.loop-column.components.items ≡ map kind_in ps) c.args.columns.now c.loop-column.column-index c.loop-column-test.false
    c.loop-column.invariant.kinds
