use Rattle.std.proofs.Common.{ℕ, true, false, not, ◌&&◌, ◌≡◌, take}
use Rattle.number_set.specs.Members.{contains}
use Rattle.model.specs.Lists.{has}
use Rattle.executor_core.proofs.executor.Core.has_refusing.Given as goal

abbrev pub invariant-loop-condition : goal.invariant-loop-condition
invariant-loop-condition l = (c : ℕ) → has c (take l.condition-index l.condition-items) ≡ true → (contains l.self.asked c && not (contains l.self.yes c)) ≡ false
