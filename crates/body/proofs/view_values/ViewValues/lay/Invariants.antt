-- the resources so far have what was written of them
use Rattle.std.proofs.Common.{◌≡◌}
use Rattle.body.specs.Laid.{with_resources}
use Rattle.body.proofs.Values.{resources_to}
use Rattle.body.proofs.view_values.ViewValues.lay.Given as goal

abbrev pub invariant-loop-number : goal.invariant-loop-number
invariant-loop-number l = record {
  laid : l.world.state ≡ with_resources l.fn.world.state (resources_to l.tick l.written-items l.number l.fn.world.state.resources);
  layout : l.world.layout ≡ l.fn.world.layout;
}
