-- What a parser reads of a program's commands, which are declared as data, and what it finds in a line.
use Rattle.std.specs.Prelude.{◌≡◌, ◌≢◌, ◌⊎◌, ◌==◌, ℕ, Bool, true, false, List, [], ◌∷◌, Option, Some, None, map, fold, length, pos, option_map, option_and_then, string_bytes, if◌then◌else◌}
use Rattle.std.specs.List.{list_any}
use Rattle.std.specs.declared.string.String.{String}
use Rattle.std.specs.declared.alloc.Global.{Global}
use Rattle.clap.specs.Words.{App, Kinds, Row, Rule, Shape, Text, fault_of, is_simple_and_free, new_app, new_rule, rule_of, shape_of, subcommand_of, subcommand_rows_of, with_rule, with_subcommand}
use Rattle.clap.specs.declared.builder.arg.Arg.{Arg}
use Rattle.clap.specs.declared.builder.command.Command.{Command}
use Rattle.clap.specs.declared.builder.command.Command.TheViews.{out-Command}
use Rattle.clap.specs.declared.parser.matches.ArgMatches.{ArgMatches}
use Rattle.clap.specs.declared.builder.value_parser.ValueParser.TheVariants.{Signed}
use Rattle.command_line.specs.Args.{asks_help, is_help}
use Rattle.command_line.specs.declared.args.LineFault.{LineFault}
use Rattle.command_line.specs.declared.args.LineFault.TheVariants.{Help, Usage, Memory}
use Rattle.command_line.specs.declared.grammar.Argument.{Argument}
use Rattle.command_line.specs.declared.grammar.Subcommand.{Subcommand}
use Rattle.command_line.specs.declared.grammar.Grammar.{Grammar}

-- an argument: it has to be there where it has no long name, and is a number where it has a range
abbrev pub rule_of_argument : Argument → Rule
rule_of_argument argument = record (new_rule argument.id.now) {
  long = if length argument.long.now == 0 then None else Some argument.long.now;
  value_names = 1;
  parser = option_map (λ range. Signed range.0 range.1) argument.range;
  required = length argument.long.now == 0;
}

-- what the parser reads of an argument: its rule, and that it is none of the subcommands'
abbrev pub argument_read : Argument → Rule × Bool
argument_read argument = (rule_of_argument argument, false)

-- the same before it is a number
abbrev pub argument_placed : Argument → Rule × Bool
argument_placed argument = (record (rule_of_argument argument) { parser = None }, false)

abbrev pub arg_read : Arg → Rule × Bool
arg_read arg = (rule_of arg, arg.global)

-- a command, with its arguments in order
abbrev pub app_of_subcommand : Subcommand → App
app_of_subcommand subcommand = fold with_rule (new_app subcommand.name.now) (map rule_of_argument subcommand.arguments.now)

abbrev pub shape_of_subcommand : Subcommand → Shape
shape_of_subcommand subcommand = (app_of_subcommand subcommand).top

-- what the parser reads of a command: its shape, and that none of its arguments is global
abbrev pub subcommand_read : Subcommand → Shape × Bool
subcommand_read subcommand = (shape_of_subcommand subcommand, false)

abbrev pub command_read : Command → Shape × Bool
command_read command = (shape_of command, (out-Command command).has_globals)

-- a program that takes one of its commands, and has to be given one
abbrev pub new_program : Text → App
new_program name = record (new_app name) { top = record (new_app name).top { subcommand_required = true } }

abbrev pub app_of_grammar : Grammar → App
app_of_grammar grammar = fold with_subcommand (new_program grammar.program.now) (map shape_of_subcommand grammar.subcommands.now)

-- what the parser finds in a line that it takes: no fault, and the command that stands there with the values of its arguments
abbrev pub IsFound : App → List Text → ArgMatches → Type 0
IsFound app words matches = is_simple_and_free app ≡ true → (fault_of app words ≡ []) × (subcommand_rows_of matches ≡ subcommand_of app words)

-- why it takes none: the line asks for help, or has a fault; or an allocation failed
abbrev pub IsUnfound : App → List Text → LineFault → Type 0
IsUnfound app words (Help text) = is_simple_and_free app ≡ true → list_any is_help (fault_of app words) ≡ true
IsUnfound app words (Usage text) = is_simple_and_free app ≡ true → fault_of app words ≢ []
IsUnfound app words Memory = Unit {0}

-- the same of the words of a command line, where help comes first
abbrev pub IsMatched : Grammar → List (String Global) → ArgMatches → Type 0
IsMatched grammar words matches = (asks_help words ≡ false) × IsFound (app_of_grammar grammar) (map string_bytes words) matches

abbrev pub IsUnmatched : Grammar → List (String Global) → LineFault → Type 0
IsUnmatched grammar words (Help text) = (asks_help words ≡ true) ⊎ IsUnfound (app_of_grammar grammar) (map string_bytes words) (Help text)
IsUnmatched grammar words (Usage text) = (asks_help words ≡ false) × IsUnfound (app_of_grammar grammar) (map string_bytes words) (Usage text)
IsUnmatched grammar words Memory = Unit {0}

-- help, or an allocation failed
abbrev pub IsHelpOrMemory : LineFault → Type 0
IsHelpOrMemory (Help text) = Unit {0}
IsHelpOrMemory (Usage text) = ⊥
IsHelpOrMemory Memory = Unit {0}

-- ---- the same commands, written out

-- an argument that stands at its place and has to be there; an option, with its long name; one whose value is a number
abbrev pub positional : Text → Rule
positional id = record (new_rule id) { value_names = 1; required = true }

abbrev pub option : Text → Text → Rule
option id long = record (new_rule id) { long = Some long; value_names = 1 }

abbrev pub number : Text → Text → ℕ → ℕ → Rule
number id long least most = record (option id long) { parser = Some (Signed (pos least) (pos most)) }

abbrev pub command : Text → List Rule → Shape
command name rules = (fold with_rule (new_app name) rules).top

abbrev pub program : Text → List Shape → App
program name commands = fold with_subcommand (new_program name) commands

-- ---- work, as a program makes it of the name of a command and the values of its arguments

-- what the parser finds, where it finds no fault
abbrev pub unless_faulty : Kinds → Option (Text × List Row) → Option (Text × List Row)
unless_faulty [] found = found
unless_faulty (kind ∷ kinds) found = None

abbrev pub taken : App → List Text → Option (Text × List Row)
taken app words = unless_faulty (fault_of app words) (subcommand_of app words)

module _ {Asked : Type 0} where
  -- of the command that was found
  abbrev pub work_in : (Text → List Row → Option Asked) → Option (Text × List Row) → Option Asked
  work_in work = option_and_then (λ found. work found.0 found.1)

  -- what the words of a command line ask for: nothing where help is asked for, or the line is at fault
  abbrev pub asked_for : (Text → List Row → Option Asked) → App → List (String Global) → Option Asked
  asked_for work app words = if asks_help words then None else work_in work (taken app (map string_bytes words))

  -- why a command with its values is no work: it asks for nothing that is done, or an allocation failed
  abbrev pub IsIdle : Option Asked → LineFault → Type 0
  IsIdle asked (Help text) = ⊥
  IsIdle asked (Usage text) = asked ≡ None
  IsIdle asked Memory = Unit {0}

  -- why the words of a command line are no work: help was asked for, here or of the parser; the line is at fault, and asks for nothing; or an
  -- allocation failed
  abbrev pub IsNoWork : (Text → List Row → Option Asked) → App → List (String Global) → LineFault → Type 0
  IsNoWork work app words (Help text) = (asks_help words ≡ true) ⊎ (list_any is_help (fault_of app (map string_bytes words)) ≡ true)
  IsNoWork work app words (Usage text) = (asks_help words ≡ false) × (asked_for work app words ≡ None)
  IsNoWork work app words Memory = Unit {0}
