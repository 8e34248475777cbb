use Rattle.column_store.proofs.Common.{◌≡◌, ◌≤◌, length, map, take, vec_len, vec_capacity, Owned, standing_at, seen_slot}
use Rattle.column_store.proofs.column_slot.copied_slots.Given as goal

-- the columns so far are copied, and there is room for all
abbrev pub invariant-loop-column : goal.invariant-loop-column
invariant-loop-column l = record {
  same : map seen_slot l.copies.items ≡ map (standing_at Owned) (map seen_slot (take l.column-index l.columns));
  many : vec_len l.copies ≡ l.column-index;
  room : length l.columns ≤ vec_capacity l.copies;
}
