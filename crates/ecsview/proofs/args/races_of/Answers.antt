use Rattle.std.proofs.Common.{◌∙◌, ap, sym, option_map}
use Rattle.clap.proofs.WalkLemmas.{first_value-rows}
use Rattle.clap.specs.Words.{found_of}
use Rattle.std.specs.Prelude.{codes}
use Rattle.ecsview.specs.Asked.{races_asked}
use Rattle.ecsview.proofs.args.races_of.Goals as goal

pub returns-in-Some : goal.returns-in-Some
returns-in-Some c =
    c.races_behind.ensures ∙ ap races_asked (ap (option_map (λ s. s.now)) (sym c.in-Some.is) ∙ c.get_str.ensures ∙ first_value-rows (found_of c.args.found.now) (codes "after"))

pub returns-in-None : goal.returns-in-None
returns-in-None c =
    ap races_asked (ap (option_map (λ s. s.now)) (sym c.in-None.is) ∙ c.get_str.ensures ∙ first_value-rows (found_of c.args.found.now) (codes "after"))
