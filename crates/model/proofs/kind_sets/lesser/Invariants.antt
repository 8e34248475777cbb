use Rattle.std.proofs.Common.{ℕ, ◌<◌, ◌≤◌, length, get_or}
use Rattle.model.proofs.kind_sets.lesser.Given as goal

-- those from the place on are not less
abbrev pub invariant-loop-place : goal.invariant-loop-place
invariant-loop-place l = record {
  within : l.place ≤ length l.numbers;
  least : (k : ℕ) → l.place ≤ k → k < length l.numbers → l.number ≤ get_or l.numbers k 0;
}

abbrev pub decreases-loop-place : goal.decreases-loop-place
decreases-loop-place l = l.place
