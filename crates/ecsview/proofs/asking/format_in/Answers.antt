use Rattle.std.proofs.Common.{◌∙◌, ap, sym, option_map}
use Rattle.clap.proofs.WalkLemmas.{first_value-rows}
use Rattle.clap.specs.Words.{found_of}
use Rattle.std.specs.Prelude.{codes}
use Rattle.ecsview.specs.Asking.{format_asked}
use Rattle.ecsview.proofs.asking.format_in.Goals as goal

pub returns-in-Some : goal.returns-in-Some
returns-in-Some c =
    c.format_of.ensures ∙ ap format_asked (ap (option_map (λ s. s.now)) (sym c.in-Some.is) ∙ c.get_str.ensures ∙ first_value-rows (found_of c.args.found.now) (codes "format"))

pub returns-in-None : goal.returns-in-None
returns-in-None c =
    ap format_asked (ap (option_map (λ s. s.now)) (sym c.in-None.is) ∙ c.get_str.ensures ∙ first_value-rows (found_of c.args.found.now) (codes "format"))
