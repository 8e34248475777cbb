use Rattle.std.proofs.Common.{◌≡◌, ◌+◌, ◌≤◌, true, length, vec_capacity, ℕ, List}
use mathlib.Core.Option.{some}
use lib.ListN.{get_elem?}
use Rattle.job_board.specs.Views.{opened}
use Rattle.job_board.specs.Held.{IsStack}
use Rattle.job_board.proofs.lead.Lead.open.Given as goal

abbrev pub invariant-loop-claimed : goal.invariant-loop-claimed
invariant-loop-claimed g l = record {
  same_table : l.seat.table_id ≡ l.initial.seat.table_id;
  leads : l.seat.me.0.leads ≡ true;
  blank : (free : List ℕ) × (read : List (ℕ × ℕ)) × (l.seat.me.0 ≡ opened free read);
  stack : IsStack l.slots l.free.items l.seat.me.0 l.seat.me.1;
  roomy : vec_capacity l.free ≡ l.slots;
  count : length l.free.items ≡ l.claimed;
  late : (at k : ℕ) → get_elem? l.seat.me.0.free at ≡ some k → l.slots ≤ k + l.claimed;
}
