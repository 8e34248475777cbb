use Rattle.std.proofs.Common.{◌≡◌, take}
use Rattle.series.specs.Values.{values_of}
use Rattle.series.proofs.series.values_in.Given as goal

-- the values so far
abbrev pub invariant-loop-one : goal.invariant-loop-one
invariant-loop-one l = l.values.items ≡ values_of l.world.state (take l.one-index l.series)
