-- What some lines ask for, computed.
use Rattle.std.proofs.Common.{◌≡◌, true, List, [], ◌∷◌, Option, Some, None, codes, refl}
use Rattle.clap.proofs.OnLiterals.{clap_on_literals}
use Rattle.clap.specs.Words.{Text, is_simple_and_free}
use Rattle.command_line.specs.Grammar.{taken, work_in}
use Rattle.ecsplay.specs.Asked.{Asked, asked_by, ecsplay_program}
use Rattle.ecsplay.specs.Asked.Wanted.{Play, Replay}

-- the command is such as the parser's definitions speak of
pub commands_are_simple : is_simple_and_free ecsplay_program ≡ true
unfolding clap_on_literals
commands_are_simple = refl

abbrev asked : List Text → Option Asked
asked words = work_in asked_by (taken ecsplay_program (codes "ecsplay" ∷ words))

two_workers : asked (codes "play" ∷ codes "a" ∷ codes "--workers" ∷ codes "2" ∷ []) ≡ Some (record { program_path = codes "a"; wanted = Play 2 [] [] })
unfolding clap_on_literals
two_workers = refl

no_65_workers : asked (codes "play" ∷ codes "a" ∷ codes "--workers" ∷ codes "65" ∷ []) ≡ None
unfolding clap_on_literals
no_65_workers = refl

recorded : asked (codes "play" ∷ codes "a" ∷ codes "--record" ∷ codes "b" ∷ codes "--from" ∷ codes "c" ∷ []) ≡ Some (record { program_path = codes "a"; wanted = Play 0 (codes "b") (codes "c") })
unfolding clap_on_literals
recorded = refl

replayed : asked (codes "replay" ∷ codes "a" ∷ codes "b" ∷ []) ≡ Some (record { program_path = codes "a"; wanted = Replay (codes "b") })
unfolding clap_on_literals
replayed = refl
