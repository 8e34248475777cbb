use Rattle.std.proofs.Common.{ℕ, true, ◌≡◌, take}
use Rattle.model.specs.Lists.{has}
use Rattle.executor_core.specs.Judges.{IsWaiting}
use Rattle.executor_core.proofs.executor.Core.has_waiting_member.Given as goal

abbrev pub invariant-loop-system : goal.invariant-loop-system
invariant-loop-system l = (n : ℕ) → has n (take l.system-index l.system-items) ≡ true → IsWaiting l.self n → ⊥
