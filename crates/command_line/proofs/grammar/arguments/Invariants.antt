use Rattle.std.proofs.Common.{◌≡◌, map, take}
use Rattle.command_line.specs.Grammar.{arg_read, argument_read}
use Rattle.command_line.proofs.grammar.arguments.Given as goal

-- the arguments so far
abbrev pub invariant-loop-argument : goal.invariant-loop-argument
invariant-loop-argument l = map arg_read l.args.items ≡ map argument_read (take l.argument-index l.arguments)
