use Rattle.column_store.proofs.Common.{◌≡◌, ◌≤◌, length, map, take, Some, stamped_number, stamped_cell, cell_at, kind_in}
use Rattle.column_store.proofs.column_slot.read_row.Given as goal

abbrev pub invariant-loop-column : goal.invariant-loop-column
invariant-loop-column l = record {
  cells : map (λ s. Some (stamped_cell s)) l.components.items ≡ map (cell_at l.row) (take l.column-index l.columns);
  kinds : map stamped_number l.components.items ≡ map kind_in (take l.column-index l.columns);
  many : length l.components.items ≡ l.column-index;
  room : length l.columns ≤ l.components.capacity;
}
