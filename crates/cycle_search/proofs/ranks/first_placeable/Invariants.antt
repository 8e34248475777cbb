use Rattle.std.proofs.Common.{◌≡◌, ℕ, ◌<◌, IsSome, None}
use Rattle.cycle_search.specs.Cycles.{height_of}
use Rattle.cycle_search.proofs.ranks.first_placeable.Given as goal

abbrev pub invariant-loop-number : goal.invariant-loop-number
invariant-loop-number l = (n : ℕ) → n < l.number → height_of l.ranks n ≡ None → IsSome (height_of l.next n)
