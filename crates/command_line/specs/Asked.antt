-- What a command line asks `ecsrun` for.
use Rattle.std.specs.Prelude.{List, [], ◌∷◌, Option, Some, None, codes, is_some, option_map, option_and_then, if◌then◌else◌}
use Rattle.std.specs.Str.{bytes_eq}
use Rattle.clap.specs.Words.{App, Row, Text, first_of}
use Rattle.command_line.specs.Grammar.{command, number, option, positional, program}
use Rattle.command_line.specs.Values.{number_or, value_of}
use Rattle.command_line.specs.declared.args.Args.{Args}
use Rattle.command_line.specs.declared.args.Work.{Work}
use Rattle.command_line.specs.declared.args.Work.TheVariants.{Run, Ambiguities, Check, Replay}

-- the commands of `ecsrun`: what the parser takes of their arguments
abbrev pub ecsrun_program : App
ecsrun_program = program (codes "ecsrun") (
    command (codes "run") (positional (codes "file") ∷ number (codes "times") (codes "times") 0 1000000 ∷ number (codes "workers") (codes "workers") 0 64 ∷ option (codes "record") (codes "trace") ∷ [])
    ∷ command (codes "check") (positional (codes "file") ∷ positional (codes "trace") ∷ [])
    ∷ command (codes "replay") (positional (codes "file") ∷ positional (codes "trace") ∷ [])
    ∷ command (codes "ambiguities") (positional (codes "file") ∷ [])
    ∷ [])

-- the work, and the paths of the program file, of the trace that is read and of the record, each empty where none is named
pub record Asked : Type 0 where
  pub work : Work
  pub program_path : Text
  pub trace_path : Text
  pub record_path : Text

abbrev pub asked_of : Args → Asked
asked_of args = record {
  work = args.work;
  program_path = args.file.now;
  trace_path = args.trace.now;
  record_path = args.«record».now;
}

-- some work on the files that are named
abbrev pub asked_on : List Row → Work → Asked
asked_on rows work = record {
  work = work;
  program_path = value_of (codes "file") rows;
  trace_path = value_of (codes "trace") rows;
  record_path = value_of (codes "record") rows;
}

-- runs: as many as `times` says, from 0 to 1,000,000 and else 1, with as many workers as `workers` says, from 0 to 64 and else none, recorded
-- where a file is named for that
abbrev pub runs_asked : List Row → Option Work
runs_asked rows = option_and_then (λ times. option_map (λ workers. Run times workers (is_some (first_of (codes "record") rows)))
    (number_or 0 64 (first_of (codes "workers") rows))) (number_or 1 1000000 (first_of (codes "times") rows))

-- the work of a command of this name
abbrev pub work_asked : Text → List Row → Option Work
work_asked name rows = if bytes_eq name (codes "run") then runs_asked rows
    else (if bytes_eq name (codes "check") then Some Check
    else (if bytes_eq name (codes "replay") then Some Replay
    else (if bytes_eq name (codes "ambiguities") then Some Ambiguities else None)))

abbrev pub asked_by : Text → List Row → Option Asked
asked_by name rows = option_map (asked_on rows) (work_asked name rows)
