-- The faults of a step that isn't allowed: which hold, and which is told.
use Rattle.std.specs.Prelude.{ℕ, ◌<◌, ◌≤◌, true, false, ◌≡◌, ◌⊎◌, List, [], ◌∷◌, length}
use Rattle.model.specs.declared.steps.Step.{Step}
use Rattle.model.specs.declared.steps.Step.TheVariants.{Cond, Start, Skip, Finish, Sync}
use Rattle.model.specs.declared.steps.StepFault.{StepFault}
use Rattle.model.specs.declared.steps.StepFault.TheVariants.{Unknown, Repeated, NotReady, ConditionOpen, ConditionFalse, ConditionTrue, Conflict, NotRunning, LevelOpen}
use Rattle.model.specs.steps.Schedule.{Schedule, params_of, access_of, level_of}
use Rattle.model.specs.steps.Lawful.{IsFree, HasFreeMember, HasOpen, HasFalse, MeetsRunning, begun, ended, runs, synced, was_asked}

-- some lower sync point isn't done
abbrev pub WaitsForSync : List Step → ℕ → Type 0
WaitsForSync h k = (j : ℕ) × (j < k) × (synced h j ≡ false)

-- some system of the level hasn't ended
abbrev pub IsLevelOpen : Schedule → List Step → ℕ → Type 0
IsLevelOpen s h k = (n : ℕ) × (n < length s.systems) × (level_of s n ≡ k) × (ended h n ≡ false)

-- the faults of each kind of step, in the order in which they are looked for
abbrev pub faults_of : Step → List StepFault
faults_of (Cond c answer) = Unknown ∷ Repeated ∷ NotReady ∷ Conflict ∷ []
faults_of (Start n) = Unknown ∷ Repeated ∷ NotReady ∷ ConditionOpen ∷ ConditionFalse ∷ Conflict ∷ []
faults_of (Skip n) = Unknown ∷ Repeated ∷ NotReady ∷ ConditionOpen ∷ ConditionTrue ∷ []
faults_of (Finish n) = Unknown ∷ NotRunning ∷ []
faults_of (Sync k) = Unknown ∷ Repeated ∷ NotReady ∷ LevelOpen ∷ []

-- whether a fault holds of asking a condition
abbrev pub AskFault : Schedule → List Step → ℕ → StepFault → Type 0
AskFault s h c Unknown = length s.conditions ≤ c
AskFault s h c Repeated = was_asked h c ≡ true
AskFault s h c NotReady = HasFreeMember s h c → ⊥
AskFault s h c Conflict = MeetsRunning s h (access_of s c)
AskFault s h c _ = ⊥

-- of a start
abbrev pub StartFault : Schedule → List Step → ℕ → StepFault → Type 0
StartFault s h n Unknown = length s.systems ≤ n
StartFault s h n Repeated = begun h n ≡ true
StartFault s h n NotReady = IsFree s h n → ⊥
StartFault s h n ConditionOpen = HasOpen s h n
StartFault s h n ConditionFalse = HasFalse s h n
StartFault s h n Conflict = MeetsRunning s h (params_of s n)
StartFault s h n _ = ⊥

-- of a skip
abbrev pub SkipFault : Schedule → List Step → ℕ → StepFault → Type 0
SkipFault s h n Unknown = length s.systems ≤ n
SkipFault s h n Repeated = begun h n ≡ true
SkipFault s h n NotReady = IsFree s h n → ⊥
SkipFault s h n ConditionOpen = HasOpen s h n
SkipFault s h n ConditionTrue = HasFalse s h n → ⊥
SkipFault s h n _ = ⊥

-- of a finish
abbrev pub FinishFault : Schedule → List Step → ℕ → StepFault → Type 0
FinishFault s h n Unknown = length s.systems ≤ n
FinishFault s h n NotRunning = runs h n ≡ false
FinishFault s h n _ = ⊥

-- of a sync point
abbrev pub SyncFault : Schedule → List Step → ℕ → StepFault → Type 0
SyncFault s h k Unknown = s.syncs ≤ k
SyncFault s h k Repeated = synced h k ≡ true
SyncFault s h k NotReady = WaitsForSync h k
SyncFault s h k LevelOpen = IsLevelOpen s h k
SyncFault s h k _ = ⊥

-- whether a fault holds of a step
abbrev pub HasFault : Schedule → List Step → Step → StepFault → Type 0
HasFault s h (Cond c answer) fault = AskFault s h c fault
HasFault s h (Start n) fault = StartFault s h n fault
HasFault s h (Skip n) fault = SkipFault s h n fault
HasFault s h (Finish n) fault = FinishFault s h n fault
HasFault s h (Sync k) fault = SyncFault s h k fault

-- the fault is the first of the list that holds
abbrev pub IsFirst : (StepFault → Type 0) → List StepFault → StepFault → Type 0
IsFirst P [] fault = ⊥
IsFirst P (f ∷ fs) fault = ((fault ≡ f) × P f) ⊎ ((P f → ⊥) × IsFirst P fs fault)

-- the fault that is told of a step
abbrev pub IsFirstFault : Schedule → List Step → Step → StepFault → Type 0
IsFirstFault s h step fault = IsFirst (HasFault s h step) (faults_of step) fault
