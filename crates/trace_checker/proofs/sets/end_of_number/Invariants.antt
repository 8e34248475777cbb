use Rattle.std.proofs.Common.{ℕ, ◌<◌, ◌≤◌, ◌≢◌, ◌-◌, get_or, length}
use Rattle.trace_checker.proofs.sets.end_of_number.Given as goal

-- no space stands before
abbrev pub invariant-loop-end : goal.invariant-loop-end
invariant-loop-end l = record {
  within : l.end ≤ length l.bytes;
  before : (k : ℕ) → k < l.end → get_or l.bytes k 0 ≢ 32;
}

abbrev pub decreases-loop-end : goal.decreases-loop-end
decreases-loop-end l = length l.bytes - l.end
