-- Lists of steps that are lawful. A history has the latest step first, so what stands before a step is its tail.
use Rattle.std.specs.Prelude.{ℕ, suc, ◌<◌, Bool, true, false, not, ◌==◌, ◌&&◌, ◌||◌, ◌≡◌, List, [], ◌∷◌, length, get_or, Option, option_map}
use Rattle.std.specs.List.{list_any}
use Rattle.model.specs.declared.steps.Step.{Step}
use Rattle.model.specs.declared.steps.Step.TheVariants.{Cond, Start, Skip, Finish, Sync}
use Rattle.model.specs.access.Access.{Params}
use Rattle.model.specs.access.Meeting.{Meet}
use Rattle.model.specs.steps.Schedule.{Schedule, params_of, covers, access_of, level_of, has_edge}

-- ---- what stands in a history

-- whether a step starts the system
abbrev pub is_start : ℕ → Step → Bool
is_start n (Start m) = m == n
is_start n _ = false

-- whether a step skips the system
abbrev pub is_skip : ℕ → Step → Bool
is_skip n (Skip m) = m == n
is_skip n _ = false

-- whether a step finishes the system
abbrev pub is_finish : ℕ → Step → Bool
is_finish n (Finish m) = m == n
is_finish n _ = false

-- whether a step is the sync point
abbrev pub is_sync : ℕ → Step → Bool
is_sync k (Sync j) = j == k
is_sync k _ = false

-- whether a step asks the condition
abbrev pub is_cond : ℕ → Step → Bool
is_cond c (Cond d a) = d == c
is_cond c _ = false

-- whether a step asks the condition, with this answer
abbrev pub is_answer : ℕ → Bool → Step → Bool
is_answer c true (Cond d a) = (d == c) && a
is_answer c false (Cond d a) = (d == c) && not a
is_answer c b _ = false

-- whether a system was started
abbrev pub started : List Step → ℕ → Bool
started h n = list_any (is_start n) h

-- whether a system was skipped
abbrev pub skipped : List Step → ℕ → Bool
skipped h n = list_any (is_skip n) h

-- whether a system was finished
abbrev pub finished : List Step → ℕ → Bool
finished h n = list_any (is_finish n) h

-- whether a sync point was done
abbrev pub synced : List Step → ℕ → Bool
synced h k = list_any (is_sync k) h

-- whether a condition was asked
abbrev pub was_asked : List Step → ℕ → Bool
was_asked h c = list_any (is_cond c) h

-- whether a condition was asked, with this answer
abbrev pub answered : List Step → ℕ → Bool → Bool
answered h c answer = list_any (is_answer c answer) h

-- a system has begun where it was started or skipped
abbrev pub begun : List Step → ℕ → Bool
begun h n = started h n || skipped h n

-- a system has ended where it was finished or skipped
abbrev pub ended : List Step → ℕ → Bool
ended h n = finished h n || skipped h n

-- a system runs where it was started and not finished
abbrev pub runs : List Step → ℕ → Bool
runs h n = started h n && not (finished h n)

-- nothing runs
abbrev pub NoneRuns : List Step → Type 0
NoneRuns h = (n : ℕ) → runs h n ≡ false

-- ---- the kind sets that were recorded

-- how many sync points a history has
abbrev pub syncs_in : List Step → ℕ
syncs_in [] = 0
syncs_in (Cond c answer ∷ h) = syncs_in h
syncs_in (Start n ∷ h) = syncs_in h
syncs_in (Skip n ∷ h) = syncs_in h
syncs_in (Finish n ∷ h) = syncs_in h
syncs_in (Sync k ∷ h) = suc (syncs_in h)

-- the kind sets that were recorded last, where they are recorded: at the opening, or after the latest sync point
abbrev pub sets_at : Schedule → List Step → Option (List ℕ)
sets_at s h = option_map (λ lists. get_or lists (syncs_in h) []) s.sets

-- ---- words on what is open

-- after a history an access meets a running system, by the kind sets recorded last: what may not be while that system runs. Where none are
-- recorded it meets it where it conflicts with it
abbrev pub Meets : Schedule → List Step → ℕ → Params → Type 0
Meets s h m access = Meet (sets_at s h) (params_of s m) access

-- some running system meets the access
abbrev pub MeetsRunning : Schedule → List Step → Params → Type 0
MeetsRunning s h access = (m : ℕ) × (runs h m ≡ true) × Meets s h m access

-- a system is free: it is one of the schedule's, hasn't begun, each system with an edge to it has ended, and each
-- lower sync point is done
pub record IsFree (s : Schedule) (h : List Step) (n : ℕ) : Type 0 where
  pub known : n < length s.systems
  pub waits : begun h n ≡ false
  pub after : (m : ℕ) → has_edge s m n ≡ true → ended h m ≡ true
  pub over : (k : ℕ) → k < level_of s n → synced h k ≡ true

-- some system that the condition covers is free
abbrev pub HasFreeMember : Schedule → List Step → ℕ → Type 0
HasFreeMember s h c = (n : ℕ) × (covers s c n ≡ true) × IsFree s h n

-- some condition that covers the system was not asked
abbrev pub HasOpen : Schedule → List Step → ℕ → Type 0
HasOpen s h n = (c : ℕ) × (covers s c n ≡ true) × (was_asked h c ≡ false)

-- some condition that covers the system answered no
abbrev pub HasFalse : Schedule → List Step → ℕ → Type 0
HasFalse s h n = (c : ℕ) × (covers s c n ≡ true) × (answered h c false ≡ true)

-- ---- what each step asks of the steps before it

-- a start asks that all conditions of the system answered yes and no running system meets it
pub record MayStart (s : Schedule) (h : List Step) (n : ℕ) : Type 0 where
  pub free : IsFree s h n
  pub answers : (c : ℕ) → covers s c n ≡ true → answered h c true ≡ true
  pub apart : MeetsRunning s h (params_of s n) → ⊥

-- a skip asks that all conditions of the system were asked and one answered no
pub record MaySkip (s : Schedule) (h : List Step) (n : ℕ) : Type 0 where
  pub free : IsFree s h n
  pub asked : (c : ℕ) → covers s c n ≡ true → was_asked h c ≡ true
  pub refused : HasFalse s h n

-- a finish asks that the system runs
pub record MayFinish (s : Schedule) (h : List Step) (n : ℕ) : Type 0 where
  pub running : runs h n ≡ true

-- to ask a condition asks that it wasn't asked, that a member of it is free, and that no running system meets its access
pub record MayAsk (s : Schedule) (h : List Step) (c : ℕ) : Type 0 where
  pub known : c < length s.conditions
  pub fresh : was_asked h c ≡ false
  pub member : HasFreeMember s h c
  pub apart : MeetsRunning s h (access_of s c) → ⊥

-- a sync point asks for the lower ones, and that every system of its level has ended
pub record MaySync (s : Schedule) (h : List Step) (k : ℕ) : Type 0 where
  pub known : k < s.syncs
  pub fresh : synced h k ≡ false
  pub lower : (j : ℕ) → j < k → synced h j ≡ true
  pub level : (n : ℕ) → n < length s.systems → level_of s n ≡ k → ended h n ≡ true

-- whether a step is allowed after a history
abbrev pub May : Schedule → List Step → Step → Type 0
May s h (Cond c answer) = MayAsk s h c
May s h (Start n) = MayStart s h n
May s h (Skip n) = MaySkip s h n
May s h (Finish n) = MayFinish s h n
May s h (Sync k) = MaySync s h k

-- a history is lawful where each step is allowed by those before it
abbrev pub IsLawful : Schedule → List Step → Type 0
IsLawful s [] = Unit {0}
IsLawful s (step ∷ h) = May s h step × IsLawful s h

-- it is complete where every system has ended and every sync point is done
pub record IsComplete (s : Schedule) (h : List Step) : Type 0 where
  pub ends : (n : ℕ) → n < length s.systems → ended h n ≡ true
  pub syncs : (k : ℕ) → k < s.syncs → synced h k ≡ true
