use Rattle.column_store.proofs.Common.{◌≡◌, ◌+◌, ◌≤◌, ◌++◌, reverse, vec_len, vec_capacity}
use Rattle.column_store.proofs.gap_list.move_gap.Given as goal

abbrev pub invariant-loop-back : goal.invariant-loop-back
invariant-loop-back l = record {
  items : l.front.items ++ reverse l.back.items ≡ l.fn.front.items ++ reverse l.fn.back.items;
  low : vec_len l.front ≤ l.place;
  many : vec_len l.front + vec_len l.back ≡ vec_len l.fn.front + vec_len l.fn.back;
  front_room : vec_capacity l.front ≡ vec_capacity l.fn.front;
  back_room : vec_capacity l.back ≡ vec_capacity l.fn.back;
}

abbrev pub decreases-loop-back : goal.decreases-loop-back
decreases-loop-back l = vec_len l.back
