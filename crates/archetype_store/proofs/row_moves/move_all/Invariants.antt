use Rattle.archetype_store.proofs.Common.{◌≡◌, map, take, drop, AllByRecursion, HaveRows, change_of, HaveRoom, HasLeft, IsPlanned, rows_seen, AreRows, shape_of}
use Rattle.archetype_store.proofs.row_moves.move_all.Given as goal

-- the rows so far have moved
abbrev pub invariant-loop-row : goal.invariant-loop-row
invariant-loop-row l = record {
  rows : AreRows l.rows;
  shapes : map shape_of l.rows.tables ≡ map shape_of l.fn.rows.tables;
  left : HaveRows (rows_seen l.fn.rows) (take l.row-index (map change_of l.moves)) (rows_seen l.rows);
  planned : AllByRecursion (IsPlanned l.rows.tables l.rows.places) (drop l.row-index l.moves);
  gone : AllByRecursion (HasLeft l.rows.places) (drop l.row-index l.moves);
  room : HaveRoom l.rows.tables l.rows.places (drop l.row-index l.moves);
}
