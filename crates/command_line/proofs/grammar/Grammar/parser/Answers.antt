use Rattle.std.proofs.Common.{◌∙◌, true, ap}
use Rattle.std.proofs.lemmas.Result.{IfOk-weaker}
use Rattle.clap.specs.Simple.{app_of_fields}
use Rattle.clap.specs.Words.{App}
use Rattle.command_line.proofs.Parsers.{program_is}
use Rattle.command_line.proofs.grammar.Grammar.parser.Goals as goal

pub returns : goal.returns
returns c =
    IfOk-weaker c.subcommands.result _ _ (λ program h. program_is c.subcommand_required.result program c.in_ok-commands.commands.items c.args.self.now h c.in_ok-commands.ensures
    (ap app_of_fields c.subcommand_required.ensures ∙ ap (λ (app : App). record app { top = record app.top { subcommand_required = true } }) c.new.ensures.app)) c.subcommands.ensures
