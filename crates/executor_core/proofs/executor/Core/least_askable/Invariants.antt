use Rattle.std.proofs.Common.{ℕ, true, ◌≡◌, take}
use Rattle.model.specs.Lists.{has}
use Rattle.executor_core.specs.Judges.{CanAsk}
use Rattle.executor_core.proofs.executor.Core.least_askable.Given as goal

abbrev pub invariant-loop-condition : goal.invariant-loop-condition
invariant-loop-condition l = (c : ℕ) → has c (take l.condition-index l.condition-items) ≡ true → CanAsk l.self l.system c → ⊥
