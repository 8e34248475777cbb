use Rattle.archetype_store.proofs.Common.{◌≡◌, map, shape_of, AreAllAlike}
use Rattle.archetype_store.proofs.row_moves.release_all.Given as goal

abbrev pub invariant-loop-row : goal.invariant-loop-row
invariant-loop-row l = record {
  places : l.rows.places ≡ l.fn.rows.places;
  shapes : map shape_of l.rows.tables ≡ map shape_of l.fn.rows.tables;
  alike : AreAllAlike l.fn.rows.tables l.rows.tables;
}
