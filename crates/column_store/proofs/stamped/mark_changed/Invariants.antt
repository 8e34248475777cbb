use Rattle.column_store.proofs.Common.{◌≡◌, ◌+◌, ◌-◌, length, vec_capacity, changed_stamps}
use Rattle.column_store.proofs.stamped.mark_changed.Given as goal

abbrev pub invariant-loop-i : goal.invariant-loop-i
invariant-loop-i l = record {
  size : length l.stamps.items ≡ length l.fn.stamps.items;
  room : vec_capacity l.stamps ≡ vec_capacity l.fn.stamps;
  rest : changed_stamps l.tick (l.from + l.i) (l.count - l.i) l.stamps.items ≡ changed_stamps l.tick l.from l.count l.fn.stamps.items;
}
