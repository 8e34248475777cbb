-- What a command line asks `ecsview` for.
use Rattle.std.specs.Prelude.{◌+◌, List, [], ◌∷◌, Option, Some, None, codes, option_map, if◌then◌else◌}
use Rattle.std.specs.Option.{option_map_or}
use Rattle.std.specs.Str.{bytes_eq}
use Rattle.clap.specs.Words.{App, Row, Text, first_of}
use Rattle.command_line.specs.Grammar.{command, number, option, positional, program}
use Rattle.command_line.specs.Values.{number_between, value_of}
use Rattle.ecsview.specs.Asking.{asking_in}
use Rattle.ecsview.specs.Part.{part_asked}
use Rattle.ecsview.specs.declared.args.Args.{Args}
use Rattle.ecsview.specs.declared.args.Work.{Work}
use Rattle.ecsview.specs.declared.args.Work.TheVariants.{Schedule, Lanes, Races, Diverge, Steps, Explain}

-- the commands of `ecsview`: what the parser takes of their arguments
abbrev pub ecsview_program : App
ecsview_program = program (codes "ecsview") (
    command (codes "schedule") (positional (codes "file") ∷ [])
    ∷ command (codes "lanes") (positional (codes "file") ∷ positional (codes "trace") ∷ option (codes "runs") (codes "runs") ∷ [])
    ∷ command (codes "races") (positional (codes "file") ∷ number (codes "after") (codes "after") 0 4294967294 ∷ [])
    ∷ command (codes "diverge") (positional (codes "file") ∷ positional (codes "trace") ∷ positional (codes "other") ∷ [])
    ∷ command (codes "steps") (positional (codes "file") ∷ positional (codes "trace") ∷ number (codes "run") (codes "run") 1 4294967295 ∷ [])
    ∷ command (codes "explain") (positional (codes "file") ∷ option (codes "deny") (codes "deny") ∷ option (codes "format") (codes "format") ∷ option (codes "trace") (codes "trace") ∷ [])
    ∷ command (codes "series") (positional (codes "file") ∷ positional (codes "name") ∷ number (codes "times") (codes "times") 0 1000000 ∷ number (codes "every") (codes "every") 1 1000000 ∷ option (codes "format") (codes "format") ∷ [])
    ∷ command (codes "cost") (positional (codes "file") ∷ number (codes "times") (codes "times") 0 1000000 ∷ [])
    ∷ [])

-- the work, and the paths of the program file and of one or two traces, each empty where none is named
pub record Asked : Type 0 where
  pub work : Work
  pub program_path : Text
  pub trace_path : Text
  pub other_path : Text

abbrev pub asked_of : Args → Asked
asked_of args = record {
  work = args.work;
  program_path = args.file.now;
  trace_path = args.trace.now;
  other_path = args.other.now;
}

-- some work on the files that are named
abbrev pub asked_on : List Row → Work → Asked
asked_on rows work = record {
  work = work;
  program_path = value_of (codes "file") rows;
  trace_path = value_of (codes "trace") rows;
  other_path = value_of (codes "other") rows;
}

-- the steps of one run, counted from 1, or of all where none is named
abbrev pub steps_of_run : Text → Option Work
steps_of_run text = option_map (λ run. Steps (Some run)) (number_between 1 4294967295 text)

abbrev pub steps_asked : Option Text → Option Work
steps_asked run = option_map_or steps_of_run run (Some (Steps None))

-- the races of the run behind so many, of the first where no number is named
abbrev pub races_behind : Text → Option Work
races_behind text = option_map (λ runs. Races (runs + 1)) (number_between 0 4294967294 text)

abbrev pub races_asked : Option Text → Option Work
races_asked after = option_map_or races_behind after (Some (Races 1))

-- the work of a command of this name
abbrev pub work_asked : Text → List Row → Option Work
work_asked name rows = if bytes_eq name (codes "schedule") then Some Schedule
    else (if bytes_eq name (codes "lanes") then option_map (λ part. Lanes part) (part_asked (first_of (codes "runs") rows))
    else (if bytes_eq name (codes "races") then races_asked (first_of (codes "after") rows)
    else (if bytes_eq name (codes "diverge") then Some Diverge
    else (if bytes_eq name (codes "steps") then steps_asked (first_of (codes "run") rows)
    else (if bytes_eq name (codes "explain") then option_map (λ asking. Explain asking) (asking_in rows) else None)))))

abbrev pub asked_by : Text → List Row → Option Asked
asked_by name rows = option_map (asked_on rows) (work_asked name rows)
