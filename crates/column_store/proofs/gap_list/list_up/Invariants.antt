use Rattle.column_store.proofs.Common.{◌≡◌, vec_len, vec_capacity, numbers_from}
use Rattle.column_store.proofs.gap_list.list_up.Given as goal

abbrev pub invariant-loop-row : goal.invariant-loop-row
invariant-loop-row l = record { numbers : l.numbers.items ≡ numbers_from 0 l.row; many : vec_len l.numbers ≡ l.row; room : vec_capacity l.numbers ≡ vec_capacity l.fn.numbers }
