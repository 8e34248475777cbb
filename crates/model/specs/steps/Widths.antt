-- The lists that a run makes: the single-threaded list, and the lists in which at most n systems run.
use Rattle.std.specs.Prelude.{ℕ, ◌<◌, Bool, ◌==◌, ◌≡◌, ◌⊎◌, cond, List, [], ◌∷◌, length, Option, Some, None}
use Rattle.model.specs.declared.steps.Step.{Step}
use Rattle.model.specs.declared.steps.Step.TheVariants.{Cond, Start, Skip, Finish, Sync}
use Rattle.model.specs.declared.steps.Ready.{Ready}
use Rattle.model.specs.steps.Schedule.{Schedule}
use Rattle.model.specs.steps.Lawful.{May}
use Rattle.model.specs.steps.Ready.{IsReady, step_of}

-- the step is what `ready` is to give, with some answer where it asks
abbrev pub IsChosen : Schedule → List Step → Step → Type 0
IsChosen s h step = (r : Ready) × (answer : Bool) × IsReady s h (Some r) × (step ≡ step_of r answer)

-- ---- the single-threaded list

-- the system that the latest step started
abbrev pub just_started : List Step → Option ℕ
just_started (Start n ∷ h) = Some n
just_started _ = None

-- the next step of one thread: the finish of what was just started, else what is ready
abbrev pub IsNextSingle : Schedule → List Step → Step → Option ℕ → Type 0
IsNextSingle s h step None = IsChosen s h step
IsNextSingle s h step (Some n) = step ≡ Finish n

-- a front of the single-threaded list
abbrev pub IsSingle : Schedule → List Step → Type 0
IsSingle s [] = Unit {0}
IsSingle s (step ∷ h) = IsNextSingle s h step (just_started h) × IsSingle s h

-- ---- lists in which at most n systems run

-- the list without the first place at which a number stands
abbrev pub without : ℕ → List ℕ → List ℕ
without n [] = []
without n (m ∷ ms) = cond (m == n) ms (m ∷ without n ms)

-- the systems that run after a history, the latest started first
abbrev pub running_after : List Step → List ℕ
running_after [] = []
running_after (Start n ∷ h) = n ∷ running_after h
running_after (Finish n ∷ h) = without n (running_after h)
running_after (Cond c answer ∷ h) = running_after h
running_after (Skip n ∷ h) = running_after h
running_after (Sync k ∷ h) = running_after h

-- a step of a coordinator with room for n running systems: a finish only where n run or nothing is ready, any other step only
-- where fewer than n run, and then what is ready
abbrev pub IsNextWide : ℕ → Schedule → List Step → Step → Type 0
IsNextWide width s h (Finish n) = (length (running_after h) ≡ width) ⊎ IsReady s h None
IsNextWide width s h (Cond c answer) = (length (running_after h) < width) × IsChosen s h (Cond c answer)
IsNextWide width s h (Start n) = (length (running_after h) < width) × IsChosen s h (Start n)
IsNextWide width s h (Skip n) = (length (running_after h) < width) × IsChosen s h (Skip n)
IsNextWide width s h (Sync k) = (length (running_after h) < width) × IsChosen s h (Sync k)

-- a lawful list of such steps
abbrev pub IsWide : ℕ → Schedule → List Step → Type 0
IsWide width s [] = Unit {0}
IsWide width s (step ∷ h) = May s h step × IsNextWide width s h step × IsWide width s h
