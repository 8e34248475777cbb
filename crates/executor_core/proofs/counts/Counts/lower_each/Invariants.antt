use Rattle.std.proofs.Common.{ℕ, ◌+◌, ◌≡◌, cond, get_or, take}
use Rattle.model.specs.Lists.{has}
use Rattle.executor_core.proofs.counts.Counts.lower_each.Given as goal

abbrev pub invariant-loop-number : goal.invariant-loop-number
invariant-loop-number l = (n : ℕ) → get_or l.self n 0 + cond (has n (take l.number-index l.numbers)) 1 0 ≡ get_or l.initial.self n 0
