-- What a command line asks `ecsplay` for.
use Rattle.std.specs.Prelude.{ℕ, List, [], ◌∷◌, Option, Some, None, codes, option_map, if◌then◌else◌}
use Rattle.std.specs.Str.{bytes_eq}
use Rattle.clap.specs.Words.{App, Row, Text, first_of}
use Rattle.command_line.specs.Grammar.{command, number, option, positional, program}
use Rattle.command_line.specs.Values.{number_or, value_of}
use Rattle.ecsplay.specs.declared.args.Args.{Args}
use Rattle.ecsplay.specs.declared.args.Work.{Work}
use Rattle.ecsplay.specs.declared.args.Work.TheVariants as work

-- the commands of `ecsplay`: what the parser takes of their arguments
abbrev pub ecsplay_program : App
ecsplay_program = program (codes "ecsplay") (
    command (codes "play") (positional (codes "file") ∷ number (codes "workers") (codes "workers") 0 64 ∷ option (codes "record") (codes "record") ∷ option (codes "from") (codes "from") ∷ [])
    ∷ command (codes "replay") (positional (codes "file") ∷ positional (codes "recorded") ∷ [])
    ∷ [])

-- a session with so many workers, which is recorded in a file, and goes on where a record ends; or a record that is taken again. A path that is
-- left out is empty
pub data Wanted : Type 0 where
  Play : (workers : ℕ) → (journal : Text) → (from : Text) → Wanted
  Replay : (journal : Text) → Wanted

-- the path of the program file, and what is done with it
pub record Asked : Type 0 where
  pub program_path : Text
  pub wanted : Wanted

abbrev pub wanted_of : Work → Wanted
wanted_of (work.Play workers journal from) = Play workers journal.now from.now
wanted_of (work.Replay journal) = Replay journal.now

abbrev pub asked_of : Args → Asked
asked_of args = record { program_path = args.file.now; wanted = wanted_of args.work }

-- so many workers: from 0 to 64, none where the option is left out
abbrev pub workers_asked : Option Text → Option ℕ
workers_asked workers = number_or 0 64 workers

-- on the file that is named
abbrev pub on_file : List Row → Wanted → Asked
on_file rows wanted = record { program_path = value_of (codes "file") rows; wanted = wanted }

abbrev pub play_asked : List Row → Option Asked
play_asked rows = option_map (λ workers. on_file rows (Play workers (value_of (codes "record") rows) (value_of (codes "from") rows))) (workers_asked (first_of (codes "workers") rows))

abbrev pub asked_by : Text → List Row → Option Asked
asked_by name rows = if bytes_eq name (codes "play") then play_asked rows
    else (if bytes_eq name (codes "replay") then Some (on_file rows (Replay (value_of (codes "recorded") rows))) else None)
