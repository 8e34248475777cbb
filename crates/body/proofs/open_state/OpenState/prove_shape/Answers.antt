use Rattle.std.proofs.Common.{subst}
use Rattle.body.specs.Steps.{HasShape, StateValue}
use Rattle.body.proofs.open_state.OpenState.prove_shape.Goals as goal

pub returns : goal.returns
returns c = subst (λ (s : StateValue). HasShape s.state) c.self.view_is (record {
  world = c.now.ensures.world;
  queue_number = c.prove_law.ensures;
  queues = c.prove_shape.ensures;
  memories = c.self.invariant.in_time;
  passed_over = c.self.invariant.counted;
})
