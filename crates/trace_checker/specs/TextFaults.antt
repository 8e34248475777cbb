-- What is at fault in a text that is that of no runs. The lines before the fault are those of whole runs so far, and it may be that the kind
-- sets of what was begun last are still to come.
use Rattle.std.specs.Prelude.{ℕ, suc, ◌+◌, ◌<◌, ◌≡◌, ◌≢◌, Bool, true, false, cond, not, ◌==◌, List, [], ◌∷◌, ◌++◌, length, get_or, ◌⊎◌}
use Rattle.std.specs.List.{AllByRecursion}
use Rattle.model.specs.declared.steps.Step.TheVariants.{Sync}
use Rattle.model.specs.steps.Schedule.{Recorded}
use Rattle.parsing.specs.Reads.{SpellsNone}
use Rattle.parsing.specs.declared.read_error.ReadError.{ReadError}
use Rattle.parsing.specs.declared.read_error.ReadError.TheVariants.{Outside, Memory}
use Rattle.trace_checker.specs.declared.line.Line.{Line}
use Rattle.trace_checker.specs.declared.line.Line.TheVariants.{Begin, Take, There}
use Rattle.trace_checker.specs.declared.read.TextFault.{TextFault}
use Rattle.trace_checker.specs.declared.read.TextFault.TheVariants as fault
use Rattle.trace_checker.specs.declared.read.Due.{Due}
use Rattle.trace_checker.specs.declared.read.Due.TheVariants.{Nothing, Opening, After}
use Rattle.trace_checker.specs.Grammar.{is_end, lines_text, lines_from, line_text, IsFitting, IsListedRun, AreRecording, IsLineBefore}

-- whether a text tells kind sets: its second line begins with the letter of those
abbrev pub is_listed : List ℕ → Bool
is_listed [] = false
is_listed (b ∷ bytes) = cond (is_end b) (get_or bytes 0 0 == 65) (is_listed bytes)

-- ---- what is due behind some runs

-- the line of what was begun last, whose kind sets are due
abbrev pub due_lines : List Recorded → Due → List Line
due_lines runs Nothing = []
due_lines runs Opening = Begin (suc (length runs)) ∷ []
due_lines runs (After k) = Take (Sync k) ∷ []

-- the lines of runs, and of what was begun behind them
abbrev pub lines_so_far : List Recorded → Due → List Line
lines_so_far runs due = lines_from 1 runs ++ due_lines runs due

-- how many runs have begun
abbrev pub begun_runs : List Recorded → Due → ℕ
begun_runs runs Nothing = length runs
begun_runs runs Opening = suc (length runs)
begun_runs runs (After k) = length runs

-- whether kind sets are due
abbrev pub is_due : Due → Bool
is_due Nothing = false
is_due Opening = true
is_due (After k) = true

-- they are due only in a text that tells them, and after a sync point only in a run
abbrev pub IsDue : Bool → List Recorded → Due → Type 0
IsDue lists runs Nothing = Unit {0}
IsDue lists runs Opening = lists ≡ true
IsDue lists runs (After k) = (lists ≡ true) × (0 < length runs)

-- runs as they are read so far, in a text that tells kind sets or in one that tells none
pub record AreBegun (lists : Bool) (runs : List Recorded) (due : Due) : Type 0 where
  pub listed : AllByRecursion IsListedRun runs
  pub alike : AreRecording lists runs
  pub waits : IsDue lists runs due

-- a text that begins with the lines of these runs, and of what is begun behind them, and goes on so
pub record IsFront (text : List ℕ) (runs : List Recorded) (due : Due) (rest : List ℕ) : Type 0 where
  pub whole : text ≡ lines_text (lines_so_far runs due) ++ rest
  pub fitting : AllByRecursion IsFitting (lines_so_far runs due)
  pub begun : AreBegun (is_listed text) runs due

-- ---- faults

-- what is told where the line of this number is not read
abbrev pub fault_of_line : ReadError → ℕ → TextFault
fault_of_line Outside number = fault.Line number
fault_of_line Memory number = fault.Memory

-- behind lines that are read the text goes on, with no line of a trace: this one, counted from 1
abbrev pub IsLineFault : ℕ → List ℕ → Type 0
IsLineFault n text = (runs : List Recorded) × (due : Due) × (rest : List ℕ) × IsFront text runs due rest
    × (rest ≢ []) × SpellsNone IsLineBefore rest × (n ≡ length (lines_so_far runs due) + 1)

-- behind so many runs a line is out of order: a run of another number than the next, or a step before any run
abbrev pub IsOutOfOrder : ℕ → Line → Type 0
IsOutOfOrder begun (Begin n) = n ≢ begun + 1
IsOutOfOrder begun (Take step) = begun ≡ 0
IsOutOfOrder begun (There numbers) = ⊥

-- behind lines that are read stands one that is out of order: this one, counted from 1
abbrev pub IsOrderFault : ℕ → List ℕ → Type 0
IsOrderFault n text = (runs : List Recorded) × (due : Due) × (line : Line) × (rest : List ℕ) × IsFront text runs due (line_text line ++ 10 ∷ rest)
    × IsFitting line × IsOutOfOrder (begun_runs runs due) line × (n ≡ length (lines_so_far runs due) + 1)

-- whether a line tells kind sets
abbrev pub is_told : Line → Bool
is_told (Begin n) = false
is_told (Take step) = false
is_told (There numbers) = true

-- whether a line is another one where kind sets are due, or tells them where none are
abbrev pub is_misplaced : Due → Line → Bool
is_misplaced due line = cond (is_due due) (not (is_told line)) (is_told line)

-- a line that is in order tells kind sets where none are due, or is another one where they are
abbrev pub IsMisplacedLine : List Recorded → Due → List ℕ → Type 0
IsMisplacedLine runs due rest = (line : Line) × (behind : List ℕ) × IsLineBefore (line, behind) rest
    × (IsOutOfOrder (begun_runs runs due) line → ⊥) × (is_misplaced due line ≡ true)

-- behind lines that are read stands such a line, or the text ends where kind sets are due: at this line, counted from 1
abbrev pub IsListsFault : ℕ → List ℕ → Type 0
IsListsFault n text = (runs : List Recorded) × (due : Due) × (rest : List ℕ) × IsFront text runs due rest
    × (((rest ≡ []) × (is_due due ≡ true)) ⊎ IsMisplacedLine runs due rest) × (n ≡ length (lines_so_far runs due) + 1)
