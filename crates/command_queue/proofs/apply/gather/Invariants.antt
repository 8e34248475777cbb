use Rattle.std.proofs.Common.{◌≡◌, drop}
use Rattle.model.specs.state.Commands.{apply_buffer}
use Rattle.model.specs.shown.Outcome.{spawned_by}
use Rattle.command_queue.specs.Commands.{commands_of}
use Rattle.command_queue.specs.Pending.{IsPending, target_of, CanSpawn}
use Rattle.command_queue.proofs.apply.gather.Given as goal

-- what is left of the buffers makes of the changes so far what all of them were to make of the world
abbrev pub invariant-loop-number : goal.invariant-loop-number
invariant-loop-number l = record {
  pending : IsPending l.world.state l.pending;
  spawns : CanSpawn (target_of l.world.state l.pending).slots (spawned_by (commands_of l.buffers (drop l.number-index l.order)));
  done : apply_buffer l.tick (target_of l.world.state l.pending) (commands_of l.buffers (drop l.number-index l.order))
      ≡ apply_buffer l.tick (record { slots = l.world.state.slots; passed_over = 0 }) (commands_of l.buffers l.order);
}
