-- The text of what is said of runs.
use Rattle.std.specs.Prelude.{ℕ, suc, List, [], ◌∷◌, ◌++◌, codes}
use Rattle.std.specs.Fmt.{decimal}
use Rattle.trace_checker.specs.declared.check.Verdict.{Verdict}
use Rattle.trace_checker.specs.Verdicts.{verdict_text}

-- the line of a run: its number, and what is said of it
abbrev pub verdict_line : ℕ → Verdict → List ℕ
verdict_line n verdict = codes "run " ++ decimal n ++ (32 ∷ verdict_text verdict) ++ 10 ∷ []

-- the lines of runs, of which the first has this number
abbrev pub verdict_lines : ℕ → List Verdict → List ℕ
verdict_lines n [] = []
verdict_lines n (verdict ∷ verdicts) = verdict_line n verdict ++ verdict_lines (suc n) verdicts

-- the text of what is said of all runs, the first of which has the number 1
abbrev pub check_text : List Verdict → List ℕ
check_text verdicts = verdict_lines 1 verdicts
