use Rattle.std.proofs.Common.{◌∙◌, ap, sym, option_map}
use Rattle.clap.proofs.WalkLemmas.{first_value-rows}
use Rattle.clap.specs.Words.{found_of}
use Rattle.command_line.specs.Values.{number_or}
use Rattle.command_line.proofs.values.number_or.Goals as goal

pub returns-in-Some-clause-number : goal.returns-in-Some-clause-number
returns-in-Some-clause-number c =
    c.number_between.ensures.number ∙ ap (number_or c.args.other c.args.most) (ap (option_map (λ s. s.now)) (sym c.in-Some.is) ∙ c.get_str.ensures ∙ first_value-rows (found_of c.args.found.now) c.args.name.now)

pub returns-in-None-clause-number : goal.returns-in-None-clause-number
returns-in-None-clause-number c =
    ap (number_or c.args.other c.args.most) (ap (option_map (λ s. s.now)) (sym c.in-None.is) ∙ c.get_str.ensures ∙ first_value-rows (found_of c.args.found.now) c.args.name.now)
