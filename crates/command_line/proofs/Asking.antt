-- What a program makes of what the parser finds.
use Rattle.std.proofs.Common.{◌≡◌, ◌∙◌, ℕ, Bool, true, List, [], ◌∷◌, Option, Some, None, map, option_map, is_some, codes, string_bytes, refl, sym, subst, ap, inl, inr}
use Rattle.std.specs.Prelude.{unwrap_or, Box}
use Rattle.std.specs.Box.{box_value}
use Rattle.std.specs.declared.string.String.{String}
use Rattle.std.specs.declared.alloc.Global.{Global}
use Rattle.clap.specs.Matches.{subcommand_name_of}
use Rattle.clap.specs.Simple.{subcommand_rows}
use Rattle.clap.specs.Words.{App, Kinds, Row, Text, fault_of, first_of, is_simple_and_free, subcommand_rows_of}
use Rattle.clap.specs.declared.parser.matches.ArgMatches.{ArgMatches}
use Rattle.clap.specs.declared.parser.matches.ArgMatches.TheViews.{out-ArgMatches, out-SubCommand}
use Rattle.clap.specs.declared.parser.matches.SubCommand.{SubCommand}
use Rattle.command_line.specs.Grammar.{IsFound, IsIdle, IsMatched, IsNoWork, IsUnfound, IsUnmatched, app_of_grammar, asked_for, work_in}
use Rattle.command_line.specs.Asked.{runs_asked}
use Rattle.command_line.specs.Values.{number_or}
use Rattle.command_line.specs.declared.args.Work.TheVariants.{Run}
use Rattle.command_line.specs.declared.args.LineFault.{LineFault}
use Rattle.command_line.specs.declared.args.LineFault.TheVariants.{Help, Usage, Memory}
use Rattle.command_line.specs.declared.grammar.Grammar.{Grammar}

-- the command that was found, by its name and its rows
pub command_found : (m : ArgMatches) (name : Text) (rows : List Row) → subcommand_name_of m ≡ Some name → option_map (λ p. p.1) (subcommand_rows_of m) ≡ Some rows →
    subcommand_rows_of m ≡ Some (name, rows)
command_found m name rows = go (out-ArgMatches m).subcommand
  where
    go : {Z : Type 0} (o : Option (Box SubCommand Z)) → option_map (λ b. (out-SubCommand (box_value b)).name.now) o ≡ Some name → option_map (λ p. p.1) (subcommand_rows o) ≡ Some rows →
        subcommand_rows o ≡ Some (name, rows)
    go None e f = cc
    go (Some b) e f =
        let named = ap (λ o. unwrap_or o name) e in
        let rowed = ap (λ o. unwrap_or o rows) f in
        rw (named, rowed) refl

pub no_command_found : (m : ArgMatches) → subcommand_name_of m ≡ None → subcommand_rows_of m ≡ None
no_command_found m = go (out-ArgMatches m).subcommand
  where
    go : {Z : Type 0} (o : Option (Box SubCommand Z)) → option_map (λ b. (out-SubCommand (box_value b)).name.now) o ≡ None → subcommand_rows o ≡ None
    go None e = refl
    go (Some b) e = cc

-- what is asked for is the work of the command that the parser finds
pub asked_found : {Asked : Type 0} (work : Text → List Row → Option Asked) (grammar : Grammar) (app : App) (words : List (String Global)) (m : ArgMatches) → IsMatched grammar words m → app_of_grammar grammar ≡ app → is_simple_and_free app ≡ true →
    asked_for work app words ≡ work_in work (subcommand_rows_of m)
asked_found work grammar app words m matched is simple =
    let found = subst (λ (app : App). IsFound app (map string_bytes words) m) is matched.1 simple in
    rw (matched.0, found.0) (ap (work_in work) (sym found.1))

-- and what makes no work of a command makes none of the line
pub idle_line : {Asked : Type 0} (work : Text → List Row → Option Asked) (grammar : Grammar) (app : App) (words : List (String Global)) (m : ArgMatches) (fault : LineFault) → IsMatched grammar words m → app_of_grammar grammar ≡ app → is_simple_and_free app ≡ true →
    IsIdle (work_in work (subcommand_rows_of m)) fault → IsNoWork work app words fault
idle_line work grammar app words m (Help text) matched is simple idle = absurd idle
idle_line work grammar app words m (Usage text) matched is simple idle = (matched.0, asked_found work grammar app words m matched is simple ∙ idle)
idle_line work grammar app words m Memory matched is simple idle = idle

-- nor is a line any work in which the parser finds nothing
pub unmatched_line : {Asked : Type 0} (work : Text → List Row → Option Asked) (grammar : Grammar) (app : App) (words : List (String Global)) (fault : LineFault) → IsUnmatched grammar words fault → app_of_grammar grammar ≡ app → is_simple_and_free app ≡ true →
    IsNoWork work app words fault
unmatched_line work grammar app words (Help text) (inl asked) is simple = inl asked
unmatched_line work grammar app words (Help text) (inr told) is simple = inr (subst (λ (app : App). IsUnfound app (map string_bytes words) (Help text)) is told simple)
unmatched_line work grammar app words (Usage text) unmatched is simple = (unmatched.0, go (fault_of app (map string_bytes words)) refl)
  where
    go : (kinds : Kinds) → fault_of app (map string_bytes words) ≡ kinds → asked_for work app words ≡ None
    go [] e = absurd (subst (λ (app : App). IsUnfound app (map string_bytes words) (Usage text)) is unmatched.1 simple e)
    go (k ∷ ks) e = rw (unmatched.0, e) refl
unmatched_line work grammar app words Memory unmatched is simple = unmatched

-- the work of runs, by their numbers
pub runs_are : (rows : List Row) (times workers : ℕ) (recorded : Bool) → Some times ≡ number_or 1 1000000 (first_of (codes "times") rows) → Some workers ≡ number_or 0 64 (first_of (codes "workers") rows) →
    recorded ≡ is_some (first_of (codes "record") rows) → Some (Run times workers recorded) ≡ runs_asked rows
runs_are rows times workers recorded e f g = rw (← e, ← f, ← g) refl
