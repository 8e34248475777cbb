use Rattle.column_store.proofs.Common.{◌≡◌, ◌+◌, ◌<◌, ◌≤◌, ◌++◌, reverse, vec_len, vec_capacity}
use Rattle.column_store.proofs.gap_list.move_back.Given as goal

abbrev pub invariant-loop-front : goal.invariant-loop-front
invariant-loop-front l = record {
  items : l.front.items ++ reverse l.back.items ≡ l.fn.front.items ++ reverse l.fn.back.items;
  low : l.place ≤ vec_len l.fn.front → l.place ≤ vec_len l.front;
  before : vec_len l.fn.front < l.place → vec_len l.front ≡ vec_len l.fn.front;
  many : vec_len l.front + vec_len l.back ≡ vec_len l.fn.front + vec_len l.fn.back;
  front_room : vec_capacity l.front ≡ vec_capacity l.fn.front;
  back_room : vec_capacity l.back ≡ vec_capacity l.fn.back;
}

abbrev pub decreases-loop-front : goal.decreases-loop-front
decreases-loop-front l = vec_len l.front
