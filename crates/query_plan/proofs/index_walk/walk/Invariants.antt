use Rattle.std.proofs.Common.{◌≡◌, ◌++◌, ℕ, drop, map}
use Rattle.std.specs.List.{AllByRecursion}
use Rattle.query_plan.specs.Standing.{chosen, is_row_at, IsStanding}
use Rattle.query_plan.proofs.Chosen.{whose}
use Rattle.query_plan.proofs.index_walk.walk.Given as goal

-- the rows so far, and those from the index on
abbrev pub invariant-loop-index : goal.invariant-loop-index
invariant-loop-index l = record {
  rows : (last : ℕ) → map whose l.rows.items ++ chosen (is_row_at l.query last l.world.state.slots) l.index (drop l.index l.world.state.slots) ≡ chosen (is_row_at l.query last l.world.state.slots) 0 l.world.state.slots;
  places : AllByRecursion (IsStanding l.world.state.slots l.world.layout) l.rows.items;
}
