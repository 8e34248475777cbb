-- What some lines ask for, computed.
use Rattle.std.proofs.Common.{◌≡◌, true, List, [], ◌∷◌, Option, Some, None, codes, refl}
use Rattle.clap.proofs.OnLiterals.{clap_on_literals}
use Rattle.clap.specs.Words.{Text, is_simple_and_free}
use Rattle.command_line.specs.Grammar.{taken, work_in}
use Rattle.ecsview.specs.Asked.{Asked, asked_by, ecsview_program}
use Rattle.ecsview.specs.declared.args.Work.TheVariants.{Diverge, Steps}

-- the commands are such as the parser's definitions speak of
pub commands_are_simple : is_simple_and_free ecsview_program ≡ true
unfolding clap_on_literals
commands_are_simple = refl

abbrev asked : List Text → Option Asked
asked words = work_in asked_by (taken ecsview_program (codes "ecsview" ∷ words))

one_run : asked (codes "steps" ∷ codes "a" ∷ codes "b" ∷ codes "--run" ∷ codes "2" ∷ []) ≡ Some (record { work = Steps (Some 2); program_path = codes "a"; trace_path = codes "b"; other_path = [] })
unfolding clap_on_literals
one_run = refl

no_run_0 : asked (codes "steps" ∷ codes "a" ∷ codes "b" ∷ codes "--run" ∷ codes "0" ∷ []) ≡ None
unfolding clap_on_literals
no_run_0 = refl

two_traces : asked (codes "diverge" ∷ codes "a" ∷ codes "b" ∷ codes "c" ∷ []) ≡ Some (record { work = Diverge; program_path = codes "a"; trace_path = codes "b"; other_path = codes "c" })
unfolding clap_on_literals
two_traces = refl
