use Rattle.archetype_store.proofs.Common.{◌≡◌, ℕ, map, take, AllByRecursion, IsFound, IsGrown, place_of, change_of, IsPlanned}
use Rattle.archetype_store.proofs.row_moves.planned_all.Given as goal

-- the changes so far are planned
abbrev pub invariant-loop-change : goal.invariant-loop-change
invariant-loop-change l = record {
  found : IsFound l.rows.tables l.index;
  grown : IsGrown l.fn.rows.tables l.rows.tables;
  same : (i : ℕ) → place_of l.rows.places i ≡ place_of l.fn.rows.places i;
  changes : map change_of l.moves.items ≡ take l.change-index l.changes;
  planned : AllByRecursion (IsPlanned l.rows.tables l.rows.places) l.moves.items;
}
