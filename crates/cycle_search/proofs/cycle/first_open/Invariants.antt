use Rattle.std.proofs.Common.{ℕ, ◌<◌, IsSome}
use Rattle.cycle_search.specs.Cycles.{height_of}
use Rattle.cycle_search.proofs.cycle.first_open.Given as goal

abbrev pub invariant-loop-item : goal.invariant-loop-item
invariant-loop-item l = (n : ℕ) → n < l.item → IsSome (height_of l.ranks n)
