use Rattle.archetype_store.proofs.Common.{◌≡◌, ◌≤◌, ℕ, drop, length, map, AllByRecursion, change_of, arrives_in, HasLeft, IsPlanned, AreAlikeBefore, rows_seen, AreRows, shape_of, room_at}
use Rattle.archetype_store.proofs.row_moves.leave_all.Given as goal

-- the rows that have left come where they would have come
abbrev pub invariant-loop-left : goal.invariant-loop-left
invariant-loop-left l = record {
  within : l.left ≤ length l.moves;
  rows : AreRows l.rows;
  shapes : map shape_of l.rows.tables ≡ map shape_of l.fn.rows.tables;
  planned : AllByRecursion (IsPlanned l.rows.tables l.rows.places) l.moves;
  arrives : AllByRecursion (λ m. arrives_in l.rows.places m ≡ arrives_in l.fn.rows.places m) l.moves;
  gone : AllByRecursion (HasLeft l.rows.places) (drop l.left l.moves);
  rooms : (t : ℕ) → room_at l.rows.tables t ≡ room_at l.fn.rows.tables t;
  alike : AreAlikeBefore (rows_seen l.fn.rows) (map change_of l.moves) (rows_seen l.rows);
}

abbrev pub decreases-loop-left : goal.decreases-loop-left
decreases-loop-left l = l.left
