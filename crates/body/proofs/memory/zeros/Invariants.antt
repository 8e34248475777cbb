use Rattle.std.proofs.Common.{◌≡◌, replicate}
use Rattle.body.proofs.memory.zeros.Given as goal

abbrev pub invariant-loop-reader : goal.invariant-loop-reader
invariant-loop-reader l = l.cursors.items ≡ replicate l._reader 0
