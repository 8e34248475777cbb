-- What some lines ask for, computed.
use Rattle.std.proofs.Common.{◌≡◌, true, false, List, [], ◌∷◌, Option, Some, None, codes, refl}
use Rattle.clap.proofs.OnLiterals.{clap_on_literals}
use Rattle.clap.specs.Words.{Text, is_simple_and_free}
use Rattle.command_line.specs.Asked.{Asked, asked_by, ecsrun_program}
use Rattle.command_line.specs.Grammar.{taken, work_in}
use Rattle.command_line.specs.declared.args.Work.TheVariants.{Run, Ambiguities, Check, Replay}

-- the commands are such as the parser's definitions speak of
pub commands_are_simple : is_simple_and_free ecsrun_program ≡ true
unfolding clap_on_literals
commands_are_simple = refl

abbrev asked : List Text → Option Asked
asked words = work_in asked_by (taken ecsrun_program (codes "ecsrun" ∷ words))

abbrev a : Text
a = codes "a.toml"

abbrev b : Text
b = codes "b.trace"

a_run : asked (codes "run" ∷ a ∷ []) ≡ Some (record { work = Run 1 0 false; program_path = a; trace_path = []; record_path = [] })
unfolding clap_on_literals
a_run = refl

recorded_runs : asked (codes "run" ∷ codes "--times=20" ∷ a ∷ codes "--workers" ∷ codes "4" ∷ codes "--trace" ∷ b ∷ []) ≡ Some (record { work = Run 20 4 true; program_path = a; trace_path = []; record_path = b })
unfolding clap_on_literals
recorded_runs = refl

a_check : asked (codes "check" ∷ a ∷ b ∷ []) ≡ Some (record { work = Check; program_path = a; trace_path = b; record_path = [] })
unfolding clap_on_literals
a_check = refl

a_replay : asked (codes "replay" ∷ codes "--" ∷ a ∷ b ∷ []) ≡ Some (record { work = Replay; program_path = a; trace_path = b; record_path = [] })
unfolding clap_on_literals
a_replay = refl

a_report : asked (codes "ambiguities" ∷ a ∷ []) ≡ Some (record { work = Ambiguities; program_path = a; trace_path = []; record_path = [] })
unfolding clap_on_literals
a_report = refl

too_many_runs : asked (codes "run" ∷ a ∷ codes "--times" ∷ codes "1000001" ∷ []) ≡ None
unfolding clap_on_literals
too_many_runs = refl

a_number_with_a_sign : asked (codes "run" ∷ a ∷ codes "--workers" ∷ codes "+1" ∷ []) ≡ None
unfolding clap_on_literals
a_number_with_a_sign = refl

no_trace_named : asked (codes "check" ∷ a ∷ []) ≡ None
unfolding clap_on_literals
no_trace_named = refl

no_command_named : asked [] ≡ None
unfolding clap_on_literals
no_command_named = refl
