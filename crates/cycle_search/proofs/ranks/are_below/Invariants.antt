use Rattle.std.proofs.Common.{◌≡◌, ℕ, ◌<◌, Some}
use Rattle.cycle_search.specs.Cycles.{height_of}
use Rattle.cycle_search.proofs.ranks.are_below.Given as goal

abbrev pub invariant-loop-height : goal.invariant-loop-height
invariant-loop-height l = (n height : ℕ) → n < l.height-index → height_of l.ranks n ≡ Some height → height < l.count
