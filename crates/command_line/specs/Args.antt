-- What a command line may ask for, and the exit status of one that is at fault.
use Rattle.std.specs.Prelude.{ℕ, ◌≡◌, ◌≤◌, ◌||◌, Bool, true, false, List, [], ◌∷◌, ◌++◌, codes, string_bytes, drop, take_while, not}
use Rattle.std.specs.List.{list_any}
use Rattle.std.specs.Str.{bytes_eq}
use Rattle.std.specs.declared.string.String.{String}
use Rattle.std.specs.declared.alloc.Global.{Global}
use Rattle.clap.specs.declared.error.kind.ErrorKind.{ErrorKind}
use Rattle.clap.specs.declared.error.kind.ErrorKind.TheVariants.{DisplayHelp, DisplayVersion}
use Rattle.command_line.specs.declared.args.Work.{Work}
use Rattle.command_line.specs.declared.args.Work.TheVariants.{Run, Ambiguities, Check, Replay}
use Rattle.command_line.specs.declared.args.LineFault.{LineFault}
use Rattle.command_line.specs.declared.args.LineFault.TheVariants.{Help, Usage, Memory}

-- how many runs the work asks for
abbrev pub runs_of : Work → ℕ
runs_of (Run times workers recorded) = times
runs_of Ambiguities = 0
runs_of Check = 0
runs_of Replay = 0

-- how many workers
abbrev pub workers_of : Work → ℕ
workers_of (Run times workers recorded) = workers
workers_of Ambiguities = 0
workers_of Check = 0
workers_of Replay = 0

-- whether its runs are recorded
abbrev pub is_recorded : Work → Bool
is_recorded (Run times workers recorded) = recorded
is_recorded Ambiguities = false
is_recorded Check = false
is_recorded Replay = false

-- at most 1,000,000 runs, and 64 workers
abbrev pub IsWithin : Work → Type 0
IsWithin work = (runs_of work ≤ 1000000) × (workers_of work ≤ 64)

-- 0 where help was asked for, 2 where the line is at fault, 3 where an allocation fails
abbrev pub line_status_of : LineFault → ℕ
line_status_of (Help text) = 0
line_status_of (Usage text) = 2
line_status_of Memory = 3

-- what is told: the text of the parser, or one line
abbrev pub line_text_of : LineFault → List ℕ
line_text_of (Help text) = string_bytes text
line_text_of (Usage text) = string_bytes text
line_text_of Memory = codes "error memory" ++ 10 ∷ []

-- a line at fault that is told by a text, where there is memory for it
abbrev pub IsReportedBy : List ℕ → LineFault → Type 0
IsReportedBy text (Help told) = ⊥
IsReportedBy text (Usage told) = string_bytes told ≡ text
IsReportedBy text Memory = Unit {0}

-- whether the parser says by this kind that help was asked for
abbrev pub is_help : ErrorKind → Bool
is_help DisplayHelp = true
is_help DisplayVersion = true
is_help _ = false

-- help is told where it was asked for, and else a line at fault, where there is memory for the text
abbrev pub IsReportedOf : ErrorKind → LineFault → Type 0
IsReportedOf kind (Help told) = is_help kind ≡ true
IsReportedOf kind (Usage told) = is_help kind ≡ false
IsReportedOf kind Memory = Unit {0}

-- whether a word asks for help
abbrev pub is_help_word : List ℕ → Bool
is_help_word word = bytes_eq word (codes "--help") || bytes_eq word (codes "-h")

-- whether it is asked for behind the program's own name, before the word that ends the options
abbrev pub asks_help : List (String Global) → Bool
asks_help words = list_any (λ word. is_help_word (string_bytes word)) (take_while (λ word. not (bytes_eq (string_bytes word) (codes "--"))) (drop 1 words))
