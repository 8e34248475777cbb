use Rattle.std.proofs.Common.{◌≡◌, ℕ, ◌<◌, ◌≤◌, false}
use Rattle.entity_table.specs.Ids.{lives_at}
use Rattle.entity_table.proofs.table.next_living_in.Given as goal

abbrev pub invariant-loop-index : goal.invariant-loop-index
invariant-loop-index l = (k : ℕ) → l.from ≤ k → k < l.index → lives_at l.places k ≡ false
