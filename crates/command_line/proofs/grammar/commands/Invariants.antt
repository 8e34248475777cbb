use Rattle.std.proofs.Common.{◌≡◌, map, take}
use Rattle.command_line.specs.Grammar.{command_read, subcommand_read}
use Rattle.command_line.proofs.grammar.commands.Given as goal

-- the commands so far
abbrev pub invariant-loop-subcommand : goal.invariant-loop-subcommand
invariant-loop-subcommand l = map command_read l.commands.items ≡ map subcommand_read (take l.subcommand-index l.subcommands)
