use Rattle.std.proofs.Common.{◌≡◌, drop}
use Rattle.lints.specs.Repeats.{has_twice}
use Rattle.lints.proofs.repeats.has_twice.Given as goal

-- none of those so far stands behind itself
abbrev pub invariant-loop-number : goal.invariant-loop-number
invariant-loop-number l = has_twice l.names ≡ has_twice (drop l.number l.names)
