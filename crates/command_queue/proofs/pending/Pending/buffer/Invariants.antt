use Rattle.std.proofs.Common.{◌≡◌, drop, map}
use Rattle.model.specs.state.Commands.{apply_buffer}
use Rattle.model.specs.shown.Outcome.{spawned_by}
use Rattle.command_queue.specs.Commands.{command_of}
use Rattle.command_queue.specs.Pending.{IsPending, target_of, CanSpawn}
use Rattle.command_queue.proofs.pending.Pending.buffer.Given as goal

-- what is left of the commands makes of the changes so far what all of them were to make
abbrev pub invariant-loop-command : goal.invariant-loop-command
invariant-loop-command l = record {
  pending : IsPending l.world.state l.self;
  spawns : CanSpawn (target_of l.world.state l.self).slots (spawned_by (map command_of (drop l.command-index l.commands)));
  done : apply_buffer l.tick (target_of l.world.state l.self) (map command_of (drop l.command-index l.commands))
      ≡ apply_buffer l.tick (target_of l.world.state l.initial.self) (map command_of l.commands);
}
