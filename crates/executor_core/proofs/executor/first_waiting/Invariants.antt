use Rattle.std.proofs.Common.{ℕ, ◌<◌, ◌≤◌, true, ◌≡◌, get_or}
use Rattle.number_set.specs.Members.{contains}
use Rattle.executor_core.proofs.executor.first_waiting.Given as goal

abbrev pub invariant-loop-place : goal.invariant-loop-place
invariant-loop-place l = (k : ℕ) → l.from ≤ k → k < l.place → contains l.begun (get_or l.order k 0) ≡ true
