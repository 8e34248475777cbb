-- Trace text: lines, of which the first of each run tells its number. Each line has one spelling, and so has each list of runs.
use Rattle.std.specs.Prelude.{ℕ, suc, Bool, cond, is_some, ◌==◌, ◌≡◌, ◌<◌, ◌^◌, List, [], ◌∷◌, ◌++◌, Option, Some, None, IfSome, length, get_or}
use Rattle.std.specs.List.{AllByRecursion, flat_map}
use Rattle.std.specs.Fmt.{decimal}
use Rattle.parsing.specs.Words.{EndsWord}
use Rattle.model.specs.state.KindSets.{AreSetNumbers}
use Rattle.model.specs.declared.steps.Step.{Step}
use Rattle.model.specs.declared.steps.Step.TheVariants.{Cond, Start, Skip, Finish, Sync}
use Rattle.model.specs.steps.Schedule.{Recorded}
use Rattle.model.specs.steps.Lawful.{syncs_in}
use Rattle.executor_core.specs.Stands.{AreListed}
use Rattle.trace_checker.specs.declared.line.Line.{Line}
use Rattle.trace_checker.specs.declared.line.Line.TheVariants.{Begin, Take, There}

-- ---- lines

-- an answer is 1 or 0
abbrev pub answer_code : Bool → ℕ
answer_code answer = cond answer 49 48

-- a condition and its answer
abbrev pub answer_text : ℕ → Bool → List ℕ
answer_text c answer = decimal c ++ 32 ∷ answer_code answer ∷ []

-- what a step is printed as
abbrev pub step_text : Step → List ℕ
step_text (Cond c answer) = 67 ∷ 32 ∷ answer_text c answer
step_text (Start n) = 83 ∷ 32 ∷ decimal n
step_text (Skip n) = 75 ∷ 32 ∷ decimal n
step_text (Finish n) = 70 ∷ 32 ∷ decimal n
step_text (Sync k) = 89 ∷ 32 ∷ decimal k

-- a number behind a space
abbrev pub spaced_number : ℕ → List ℕ
spaced_number n = 32 ∷ decimal n

-- what kind sets are printed as, by their numbers
abbrev pub sets_text : List ℕ → List ℕ
sets_text numbers = flat_map spaced_number numbers

-- what a line is printed as
abbrev pub line_text : Line → List ℕ
line_text (Begin n) = 82 ∷ 32 ∷ decimal n
line_text (Take step) = step_text step
line_text (There numbers) = 65 ∷ sets_text numbers

-- whether a byte ends a line
abbrev pub is_end : ℕ → Bool
is_end byte = byte == 10

-- lines, each with its end
abbrev pub lines_text : List Line → List ℕ
lines_text [] = []
lines_text (line ∷ lines) = line_text line ++ 10 ∷ lines_text lines

-- ---- runs

-- the line of the kind sets that are recorded at a place, where they are recorded: 0 is the opening, and the sync points follow from 1
abbrev pub sets_line : Option (List (List ℕ)) → ℕ → List Line
sets_line None place = []
sets_line (Some lists) place = There (get_or lists place []) ∷ []

-- there are lists for this place, where any are recorded
abbrev pub AreWithin : ℕ → Option (List (List ℕ)) → Type 0
AreWithin place sets = IfSome sets (λ lists. place < length lists)

-- the lines of a step behind a history: behind that of a sync point stands that of the kind sets after it
abbrev pub step_lines : Option (List (List ℕ)) → List Step → Step → List Line
step_lines sets h (Cond c answer) = Take (Cond c answer) ∷ []
step_lines sets h (Start n) = Take (Start n) ∷ []
step_lines sets h (Skip n) = Take (Skip n) ∷ []
step_lines sets h (Finish n) = Take (Finish n) ∷ []
step_lines sets h (Sync k) = Take (Sync k) ∷ sets_line sets (syncs_in (Sync k ∷ h))

-- the lines of a history, which has the latest step first: that of the kind sets at the opening, and those of its steps, the oldest first
abbrev pub history_lines : Option (List (List ℕ)) → List Step → List Line
history_lines sets [] = sets_line sets 0
history_lines sets (step ∷ h) = history_lines sets h ++ step_lines sets h step

-- the lines of a run
abbrev pub run_lines : ℕ → Recorded → List Line
run_lines n run = Begin n ∷ history_lines run.sets run.steps

-- the lines of runs, of which the first has this number
abbrev pub lines_from : ℕ → List Recorded → List Line
lines_from n [] = []
lines_from n (run ∷ runs) = run_lines n run ++ lines_from (suc n) runs

-- the text of runs
abbrev pub trace_text : List Recorded → List ℕ
trace_text runs = lines_text (lines_from 1 runs)

-- ---- what has a text

-- the number that a step names
abbrev pub named_by : Step → ℕ
named_by (Cond c answer) = c
named_by (Start n) = n
named_by (Skip n) = n
named_by (Finish n) = n
named_by (Sync k) = k

-- what a line names is a number of 32 bits, or are the numbers of kind sets, which rise
abbrev pub IsFitting : Line → Type 0
IsFitting (Begin n) = n < 2 ^ 32
IsFitting (Take step) = named_by step < 2 ^ 32
IsFitting (There numbers) = AreSetNumbers numbers

-- a run has as many lists of kind sets as places to record them at, or none
abbrev pub IsListedRun : Recorded → Type 0
IsListedRun run = AreListed run.sets run.steps

-- whether a run records kind sets
abbrev pub records : Recorded → Bool
records run = is_some run.sets

-- all of these runs record kind sets, or none of them does
abbrev pub AreRecording : Bool → List Recorded → Type 0
AreRecording lists runs = AllByRecursion (λ run. records run ≡ lists) runs

-- one of the two
abbrev pub AreAlike : List Recorded → Type 0
AreAlike runs = (lists : Bool) × AreRecording lists runs

-- runs that have a text: what their lines name fits, each lists the kind sets of each place, and all record them or none does
pub record AreFitting (runs : List Recorded) : Type 0 where
  pub lines : AllByRecursion IsFitting (lines_from 1 runs)
  pub listed : AllByRecursion IsListedRun runs
  pub alike : AreAlike runs

-- ---- what is read

-- a number of 32 bits, as it is printed
abbrev pub IsNumeralOf : ℕ → List ℕ → Type 0
IsNumeralOf n bytes = (n < 2 ^ 32) × (bytes ≡ decimal n)

-- a condition and its answer, as they are printed
abbrev pub IsAnswerTail : (ℕ × Bool) → List ℕ → Type 0
IsAnswerTail asked bytes = (asked.0 < 2 ^ 32) × (bytes ≡ answer_text asked.0 asked.1)

-- a number behind a space, and what follows it: nothing, or a space first
abbrev pub IsNumberBefore : (ℕ × List ℕ) → List ℕ → Type 0
IsNumberBefore found bytes = (found.0 < 2 ^ 32) × EndsWord found.1 × (bytes ≡ 32 ∷ decimal found.0 ++ found.1)

-- kind sets, as they are printed
abbrev pub AreSets : List ℕ → List ℕ → Type 0
AreSets numbers bytes = AreSetNumbers numbers × (bytes ≡ sets_text numbers)

-- a line without its end, as it is printed
abbrev pub IsLine : Line → List ℕ → Type 0
IsLine line bytes = IsFitting line × (bytes ≡ line_text line)

-- a line with its end, and what follows it
abbrev pub IsLineBefore : (Line × List ℕ) → List ℕ → Type 0
IsLineBefore found bytes = IsFitting found.0 × (bytes ≡ line_text found.0 ++ 10 ∷ found.1)
