-- The judgement of a step as computed tests: whether each fault holds, and which is told.
use Rattle.std.specs.Prelude.{ℕ, zero, suc, Bool, true, false, not, ◌&&◌, ◌||◌, ◌==◌, nat_lt, nat_le, List, [], ◌∷◌, length, find, Option, is_none}
use Rattle.std.specs.List.{list_any, list_all}
use Rattle.model.specs.declared.steps.Step.{Step}
use Rattle.model.specs.declared.steps.Step.TheVariants.{Cond, Start, Skip, Finish, Sync}
use Rattle.model.specs.declared.steps.StepFault.{StepFault}
use Rattle.model.specs.declared.steps.StepFault.TheVariants.{Unknown, Repeated, NotReady, ConditionOpen, ConditionFalse, ConditionTrue, Conflict, NotRunning, LevelOpen}
use Rattle.model.specs.access.Access.{Params}
use Rattle.model.specs.access.Meeting.{meet}
use Rattle.model.specs.steps.Schedule.{Schedule, system_at, condition_at, params_of, access_of, level_of, covers}
use Rattle.model.specs.steps.Lawful.{begun, ended, runs, synced, was_asked, answered, sets_at}
use Rattle.model.specs.steps.Faults.{faults_of}

-- whether some number below a bound passes
abbrev pub any_below : (ℕ → Bool) → ℕ → Bool
any_below test zero = false
any_below test (suc bound) = any_below test bound || test bound

-- whether a sync point below this one isn't done
abbrev pub waits_for_sync : List Step → ℕ → Bool
waits_for_sync h k = any_below (λ j. not (synced h j)) k

-- whether a system is free
abbrev pub is_free : Schedule → List Step → ℕ → Bool
is_free s h n = nat_lt n (length s.systems) && not (begun h n) && list_all (ended h) (system_at s n).predecessors && not (waits_for_sync h (level_of s n))

-- whether a condition covers a free system
abbrev pub has_free_member : Schedule → List Step → ℕ → Bool
has_free_member s h c = list_any (is_free s h) (condition_at s c).covers

-- whether a condition of the system was not asked, and whether one answered no
abbrev pub has_open : Schedule → List Step → ℕ → Bool
has_open s h n = any_below (λ c. covers s c n && not (was_asked h c)) (length s.conditions)

abbrev pub has_false : Schedule → List Step → ℕ → Bool
has_false s h n = any_below (λ c. covers s c n && answered h c false) (length s.conditions)

-- whether a running system meets the access
abbrev pub meets_running : Schedule → List Step → Params → Bool
meets_running s h access = any_below (λ m. runs h m && meet (sets_at s h) (params_of s m) access) (length s.systems)

-- whether a system of the level hasn't ended
abbrev pub is_level_open : Schedule → List Step → ℕ → Bool
is_level_open s h k = any_below (λ n. (level_of s n == k) && not (ended h n)) (length s.systems)

-- whether each fault holds
abbrev pub ask_fault : Schedule → List Step → ℕ → StepFault → Bool
ask_fault s h c Unknown = nat_le (length s.conditions) c
ask_fault s h c Repeated = was_asked h c
ask_fault s h c NotReady = not (has_free_member s h c)
ask_fault s h c Conflict = meets_running s h (access_of s c)
ask_fault s h c _ = false

abbrev pub start_fault : Schedule → List Step → ℕ → StepFault → Bool
start_fault s h n Unknown = nat_le (length s.systems) n
start_fault s h n Repeated = begun h n
start_fault s h n NotReady = not (is_free s h n)
start_fault s h n ConditionOpen = has_open s h n
start_fault s h n ConditionFalse = has_false s h n
start_fault s h n Conflict = meets_running s h (params_of s n)
start_fault s h n _ = false

abbrev pub skip_fault : Schedule → List Step → ℕ → StepFault → Bool
skip_fault s h n Unknown = nat_le (length s.systems) n
skip_fault s h n Repeated = begun h n
skip_fault s h n NotReady = not (is_free s h n)
skip_fault s h n ConditionOpen = has_open s h n
skip_fault s h n ConditionTrue = not (has_false s h n)
skip_fault s h n _ = false

abbrev pub finish_fault : Schedule → List Step → ℕ → StepFault → Bool
finish_fault s h n Unknown = nat_le (length s.systems) n
finish_fault s h n NotRunning = not (runs h n)
finish_fault s h n _ = false

abbrev pub sync_fault : Schedule → List Step → ℕ → StepFault → Bool
sync_fault s h k Unknown = nat_le s.syncs k
sync_fault s h k Repeated = synced h k
sync_fault s h k NotReady = waits_for_sync h k
sync_fault s h k LevelOpen = is_level_open s h k
sync_fault s h k _ = false

abbrev pub has_fault : Schedule → List Step → Step → StepFault → Bool
has_fault s h (Cond c answer) fault = ask_fault s h c fault
has_fault s h (Start n) fault = start_fault s h n fault
has_fault s h (Skip n) fault = skip_fault s h n fault
has_fault s h (Finish n) fault = finish_fault s h n fault
has_fault s h (Sync k) fault = sync_fault s h k fault

-- the fault that is told of a step, none where it may come
abbrev pub fault_of : Schedule → List Step → Step → Option StepFault
fault_of s h step = find (has_fault s h step) (faults_of step)

-- whether a history is lawful
abbrev pub is_lawful : Schedule → List Step → Bool
is_lawful s [] = true
is_lawful s (step ∷ h) = is_none (fault_of s h step) && is_lawful s h

-- whether it is complete
abbrev pub is_complete : Schedule → List Step → Bool
is_complete s h = not (any_below (λ n. not (ended h n)) (length s.systems)) && not (any_below (λ k. not (synced h k)) s.syncs)
