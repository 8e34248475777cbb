use Rattle.std.proofs.Common.{◌≡◌, drop}
use Rattle.command_queue.specs.Commands.{commands_of}
use Rattle.engine.proofs.deferred.have_commands.Given as goal

-- the systems so far have no commands
abbrev pub invariant-loop-system : goal.invariant-loop-system
invariant-loop-system l = commands_of l.commands (drop l.system-index l.level) ≡ commands_of l.commands l.level
