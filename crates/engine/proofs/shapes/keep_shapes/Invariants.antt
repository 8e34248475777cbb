use Rattle.std.proofs.Common.{◌≡◌}
use Rattle.engine.proofs.shapes.keep_shapes.Given as goal

-- the state is as it was
abbrev pub invariant-loop-system : goal.invariant-loop-system
invariant-loop-system l = l.state ≡ l.fn.state

abbrev pub invariant-loop-condition : goal.invariant-loop-condition
invariant-loop-condition l = l.state ≡ l.fn.state
