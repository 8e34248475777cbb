use Rattle.archetype_store.proofs.Common.{◌≡◌, map, take, HaveRoom, shape_of, AreAllAlike}
use Rattle.archetype_store.proofs.row_moves.reserve_all.Given as goal

-- there is room for the rows so far
abbrev pub invariant-loop-row : goal.invariant-loop-row
invariant-loop-row l = record {
  places : l.rows.places ≡ l.fn.rows.places;
  shapes : map shape_of l.rows.tables ≡ map shape_of l.fn.rows.tables;
  alike : AreAllAlike l.fn.rows.tables l.rows.tables;
  room : HaveRoom l.rows.tables l.fn.rows.places (take l.row-index l.moves);
}
