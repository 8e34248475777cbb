use Rattle.std.proofs.Common.{◌≡◌}
use Rattle.engine.proofs.shapes.keep_each.Given as goal

-- the state is as it was
abbrev pub invariant-loop-query : goal.invariant-loop-query
invariant-loop-query l = l.state ≡ l.fn.state
