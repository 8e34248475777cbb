use Rattle.std.proofs.Common.{◌≡◌, ◌*◌, drop}
use Rattle.std.specs.Prelude.{◌+ℤ◌, ◌≤◌, unsigned_abs}
use Rattle.series.specs.Values.{sum_of}
use Rattle.series.proofs.series.sum_in.Given as goal

-- what is left, with the total so far, is the sum; and each entity brought no more than a value of 64 bits
abbrev pub invariant-loop-index : goal.invariant-loop-index
invariant-loop-index l = record {
  sum : l.total +ℤ sum_of l.fn.field (drop l.index l.world.state.slots) ≡ sum_of l.fn.field l.world.state.slots;
  small : unsigned_abs l.total ≤ l.index * 9223372036854775808;
}
