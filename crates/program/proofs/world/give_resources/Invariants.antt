use Rattle.std.proofs.Common.{◌≡◌, ◌++◌, take, drop, map}
use Rattle.model.specs.state.Loaded.{resource_given}
use Rattle.program.proofs.world.give_resources.Given as goal

-- the resources so far have their values
abbrev pub invariant-loop-number : goal.invariant-loop-number
invariant-loop-number l = record {
  given : l.world.state ≡ record {
    slots = l.fn.world.state.slots;
    resources = map resource_given (take l.number l.values) ++ drop l.number l.fn.world.state.resources;
    clock = l.fn.world.state.clock;
  };
  layout : l.world.layout ≡ l.fn.world.layout;
}
