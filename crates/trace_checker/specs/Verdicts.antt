-- What a schedule says of a recorded run.
use Rattle.std.specs.Prelude.{ℕ, suc, ◌+◌, ◌≡◌, Bool, true, false, List, [], ◌∷◌, ◌++◌, length, take, Option, option_map, codes}
use Rattle.std.specs.Fmt.{decimal}
use Rattle.model.specs.declared.steps.Step.{Step}
use Rattle.model.specs.declared.steps.StepFault.{StepFault}
use Rattle.model.specs.declared.steps.StepFault.TheVariants.{Unknown, Repeated, NotReady, ConditionOpen, ConditionFalse, ConditionTrue, Conflict, NotRunning, LevelOpen}
use Rattle.model.specs.steps.Schedule.{Schedule, Recorded, recording}
use Rattle.model.specs.steps.Lawful.{syncs_in, IsLawful, IsComplete}
use Rattle.model.specs.steps.Faults.{IsFirstFault}
use Rattle.trace_checker.specs.declared.check.Verdict.{Verdict}
use Rattle.trace_checker.specs.declared.check.Verdict.TheVariants.{Complete, Unfinished, Bad}

-- the steps before this one, which is counted from 1, are lawful, and it may not come after them, for this fault
abbrev pub IsRefusedAt : Schedule → List Step → ℕ → StepFault → Type 0
IsRefusedAt s h n fault = (later : List Step) × (step : Step) × (front : List Step) × (h ≡ later ++ step ∷ front)
    × IsLawful s front × IsFirstFault s front step fault × (n ≡ length front + 1)

-- what is said of a history, which has the latest step first
abbrev pub IsSaidOf : Schedule → List Step → Verdict → Type 0
IsSaidOf s h Complete = IsLawful s h × IsComplete s h
IsSaidOf s h Unfinished = IsLawful s h × (IsComplete s h → ⊥)
IsSaidOf s h (Bad n fault) = IsRefusedAt s h n fault

-- what is said of a recorded run, by the kind sets that it records
abbrev pub IsVerdict : Schedule → Recorded → Verdict → Type 0
IsVerdict s r verdict = IsSaidOf (recording s r.sets) r.steps verdict

-- what is said of runs, of each by itself
abbrev pub AreVerdicts : Schedule → List Recorded → List Verdict → Type 0
AreVerdicts s [] [] = Unit {0}
AreVerdicts s [] (verdict ∷ verdicts) = ⊥
AreVerdicts s (run ∷ runs) [] = ⊥
AreVerdicts s (run ∷ runs) (verdict ∷ verdicts) = IsVerdict s run verdict × AreVerdicts s runs verdicts

-- the lists of kind sets recorded up to a history: that of the opening, and one for each of its sync points
abbrev pub sets_so_far : Option (List (List ℕ)) → List Step → Option (List (List ℕ))
sets_so_far sets h = option_map (λ lists. take (suc (syncs_in h)) lists) sets

-- whether all steps are lawful and none is missing
abbrev pub is_complete : Verdict → Bool
is_complete Complete = true
is_complete Unfinished = false
is_complete (Bad n fault) = false

-- ---- text

-- the number of a fault
abbrev pub fault_number : StepFault → ℕ
fault_number Unknown = 1
fault_number Repeated = 2
fault_number NotReady = 3
fault_number ConditionOpen = 4
fault_number ConditionFalse = 5
fault_number ConditionTrue = 6
fault_number Conflict = 7
fault_number NotRunning = 8
fault_number LevelOpen = 9

-- what a verdict is printed as: for a step at fault its number and that of the fault
abbrev pub verdict_text : Verdict → List ℕ
verdict_text Complete = codes "complete"
verdict_text Unfinished = codes "unfinished"
verdict_text (Bad n fault) = codes "bad " ++ decimal n ++ (codes " S" ++ decimal (fault_number fault))
