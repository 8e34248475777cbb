-- What is added to a command one by one, and what the kinds of fault of a line tell.
use Rattle.std.proofs.Common.{◌≡◌, ◌∙◌, Bool, true, false, List, [], ◌∷◌, map, fold, drop, slice_get, refl, sym, subst, ap, ap₂, inl, inr, ◌⊎◌}
use Rattle.std.specs.Prelude.{unwrap_or}
use Rattle.std.specs.List.{list_any}
use Rattle.std.proofs.lemmas.Bool.{and_parts, or_left, or_right}
use Rattle.clap.specs.Built.{AddsArg, AddsInTurn, AddsSubcommand}
use Rattle.clap.specs.Words.{App, HasMatchesOf, IsAmong, Kinds, Rule, Shape, Text, app_of, fault_of, is_simple_and_free, new_app, rule_of, shape_of, with_rule, with_subcommand}
use Rattle.clap.specs.declared.builder.arg.Arg.{Arg}
use Rattle.clap.specs.declared.builder.command.Command.{Command}
use Rattle.clap.specs.declared.builder.command.Command.TheViews.{out-Command}
use Rattle.clap.specs.declared.error.kind.ErrorKind.{ErrorKind}
use Rattle.clap.specs.declared.error.kind.ErrorKind.TheVariants.{OutOfMemory}
use Rattle.clap.specs.declared.parser.matches.ArgMatches.{ArgMatches}
use Rattle.command_line.specs.Args.{IsReportedOf, is_help}
use Rattle.command_line.specs.declared.args.LineFault.{LineFault}
use Rattle.command_line.specs.declared.args.LineFault.TheVariants.{Help, Usage, Memory}
use Rattle.command_line.specs.Grammar.{IsFound, IsUnfound, app_of_grammar, app_of_subcommand, new_program, arg_read, argument_read, command_read, rule_of_argument, shape_of_subcommand, subcommand_read}
use Rattle.command_line.specs.declared.grammar.Argument.{Argument}
use Rattle.command_line.specs.declared.grammar.Subcommand.{Subcommand}
use Rattle.command_line.specs.declared.grammar.Grammar.{Grammar}

-- equal lists begin alike, and go on alike
begin_alike : {X : Type 0} (x y : X) (xs ys : List X) → x ∷ xs ≡ y ∷ ys → (x ≡ y) × (xs ≡ ys)
begin_alike x y xs ys e = (ap (λ l. unwrap_or (slice_get l 0) x) e, ap (drop 1) e)

-- a command to which arguments were added has their rules besides
pub rules_added : (c d : Command) (xs : List Arg) (ys : List Argument) → AddsInTurn AddsArg c xs d → map arg_read xs ≡ map argument_read ys → (out-Command c).has_globals ≡ false →
    (app_of d ≡ fold with_rule (app_of c) (map rule_of_argument ys)) × ((out-Command d).has_globals ≡ false)
rules_added c d [] [] h e local = (ap app_of (sym h), ap (λ k. (out-Command k).has_globals) (sym h) ∙ local)
rules_added c d [] (y ∷ ys) h e local = cc
rules_added c d (x ∷ xs) [] h e local = cc
rules_added c d (x ∷ xs) (y ∷ ys) h e local =
    let alike = begin_alike (arg_read x) (argument_read y) (map arg_read xs) (map argument_read ys) e in
    let own : x.global ≡ false = ap (λ (told : Rule × Bool). told.1) alike.0 in
    let rule : rule_of x ≡ rule_of_argument y = ap (λ (told : Rule × Bool). told.0) alike.0 in
    let globals : (out-Command h.0).has_globals ≡ false = rw (h.1.globals, local, own) refl in
    let rest = rules_added h.0 d xs ys h.2 alike.1 globals in
    (rest.0 ∙ ap (λ (app : App). fold with_rule app (map rule_of_argument ys)) (h.1.shape own ∙ ap (with_rule (app_of c)) rule), rest.1)

-- a command to which others were added has them besides
pub commands_added : (c d : Command) (xs : List Command) (ys : List Subcommand) → AddsInTurn AddsSubcommand c xs d → map command_read xs ≡ map subcommand_read ys →
    app_of d ≡ fold with_subcommand (app_of c) (map shape_of_subcommand ys)
commands_added c d [] [] h e = ap app_of (sym h)
commands_added c d [] (y ∷ ys) h e = cc
commands_added c d (x ∷ xs) [] h e = cc
commands_added c d (x ∷ xs) (y ∷ ys) h e =
    let alike = begin_alike (command_read x) (subcommand_read y) (map command_read xs) (map subcommand_read ys) e in
    let own : (out-Command x).has_globals ≡ false = ap (λ (told : Shape × Bool). told.1) alike.0 in
    let shape : shape_of x ≡ shape_of_subcommand y = ap (λ (told : Shape × Bool). told.0) alike.0 in
    commands_added h.0 d xs ys h.2 alike.1
    ∙ ap (λ (app : App). fold with_subcommand app (map shape_of_subcommand ys)) (h.1.shape own ∙ ap (with_subcommand (app_of c)) shape)

-- a command with its arguments, as the parser has it
pub command_is : (start command : Command) (xs : List Arg) (subcommand : Subcommand) → AddsInTurn AddsArg start xs command → map arg_read xs ≡ map argument_read subcommand.arguments.now → app_of start ≡ new_app subcommand.name.now →
    (out-Command start).has_globals ≡ false → command_read command ≡ subcommand_read subcommand
command_is start command xs subcommand h e is local =
    let added = rules_added start command xs subcommand.arguments.now h e local in
    let app : app_of command ≡ app_of_subcommand subcommand = added.0 ∙ ap (λ (app : App). fold with_rule app (map rule_of_argument subcommand.arguments.now)) is in
    ap₂ (λ (shape : Shape) (globals : Bool). (shape, globals)) (ap (λ (app : App). app.top) app) added.1

-- and a program with its commands
pub program_is : (start program : Command) (xs : List Command) (grammar : Grammar) → AddsInTurn AddsSubcommand start xs program → map command_read xs ≡ map subcommand_read grammar.subcommands.now →
    app_of start ≡ new_program grammar.program.now → app_of program ≡ app_of_grammar grammar
program_is start program xs grammar h e is =
    commands_added start program xs grammar.subcommands.now h e ∙ ap (λ (app : App). fold with_subcommand app (map shape_of_subcommand grammar.subcommands.now)) is

-- a kind that asks for help is among the kinds of a line
pub help_among : (kind : ErrorKind) (kinds : Kinds) → IsAmong kind kinds → is_help kind ≡ true → list_any is_help kinds ≡ true
help_among kind [] h e = absurd h
help_among kind (k ∷ ks) (inl same) e = or_left _ _ (ap is_help (sym same) ∙ e)
help_among kind (k ∷ ks) (inr h) e = or_right _ _ (help_among kind ks h e)

-- and no kind is where there are none
pub none_among : (kind : ErrorKind) (kinds : Kinds) → IsAmong kind kinds → kinds ≡ [] → ⊥
none_among kind [] h e = h
none_among kind (k ∷ ks) h e = cc

-- what the parser finds in a line, and why it finds nothing
pub found_by : (a b : App) (words : List Text) (m : ArgMatches) → a ≡ b → (is_simple_and_free a ≡ true → fault_of a words ≡ []) → HasMatchesOf a words m → IsFound b words m
found_by a b words m e faults matches =
    subst (λ (app : App). IsFound app words m) e (λ simple. (faults simple, (matches (and_parts _ _ simple).0).1))

pub unfound_by : (a b : App) (words : List Text) (kind : ErrorKind) (fault : LineFault) → a ≡ b → (is_simple_and_free a ≡ true → (kind ≡ OutOfMemory) ⊎ IsAmong kind (fault_of a words)) →
    (kind ≡ OutOfMemory → fault ≡ Memory) → IsReportedOf kind fault → IsUnfound b words fault
unfound_by a b words kind fault e kinds memory told = subst (λ (app : App). IsUnfound app words fault) e (go fault memory told)
  where
    go : (fault : LineFault) → (kind ≡ OutOfMemory → fault ≡ Memory) → IsReportedOf kind fault → IsUnfound a words fault
    go (Help text) memory told = λ simple. elim (kinds simple) [
      | inl spent ↦
          let bad : Help text ≡ Memory = memory spent in
          cc
      | inr among ↦ help_among kind (fault_of a words) among told
    ]
    go (Usage text) memory told = λ simple none. elim (kinds simple) [
      | inl spent ↦
          let bad : Usage text ≡ Memory = memory spent in
          cc
      | inr among ↦ none_among kind (fault_of a words) among none
    ]
    go Memory memory told = told
