use Rattle.std.proofs.Common.{◌∙◌, ap}
use Rattle.std.proofs.lemmas.Result.{IfOk-weaker}
use Rattle.clap.specs.Simple.{app_of_fields}
use Rattle.command_line.proofs.Parsers.{command_is}
use Rattle.command_line.proofs.grammar.command_of.Goals as goal

pub returns : goal.returns
returns c =
    IfOk-weaker c.args-2.result _ _ (λ command h. command_is c.about.result command c.in_ok-args.args.items c.args.subcommand.now h c.in_ok-args.ensures (ap app_of_fields c.about.ensures ∙ c.new.ensures.app)
    (ap (λ fields. fields.has_globals) c.about.ensures ∙ c.new.ensures.local)) c.args-2.ensures
