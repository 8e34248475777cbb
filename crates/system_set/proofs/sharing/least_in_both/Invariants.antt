use Rattle.std.proofs.Common.{ℕ, ◌<◌}
use Rattle.system_set.specs.Ordered.{IsBoth}
use Rattle.system_set.proofs.sharing.least_in_both.Given as goal

abbrev pub invariant-loop-item : goal.invariant-loop-item
invariant-loop-item l = (m : ℕ) → m < l.item → IsBoth l.sets l.first l.second m → ⊥
