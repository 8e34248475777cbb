-- Faults are exact: a step has a fault or is allowed, never both, and one fault is told of it.
use Rattle.std.proofs.Common.{ℕ, ◌<◌, ◌≤◌, true, ◌≡◌, ◌⊎◌, inl, inr, List, [], ◌∷◌, refl, sym, ◌∙◌, subst, arith}
use Rattle.std.proofs.lemmas.Bool.{cases_lt, both_ways, false_from_ne_true, true_from_ne_false}
use Rattle.model.specs.declared.steps.Step.{Step}
use Rattle.model.specs.declared.steps.Step.TheVariants.{Cond, Start, Skip, Finish, Sync}
use Rattle.model.specs.declared.steps.StepFault.{StepFault}
use Rattle.model.specs.declared.steps.StepFault.TheVariants.{Unknown, Repeated, NotReady, ConditionOpen, ConditionFalse, ConditionTrue, Conflict, NotRunning, LevelOpen}
use Rattle.model.specs.steps.Schedule.{Schedule, access_of, params_of}
use Rattle.model.specs.steps.Lawful.{begun, runs, synced, was_asked, May, IsLawful}
use Rattle.model.specs.steps.Faults.{faults_of, AskFault, StartFault, SkipFault, FinishFault, SyncFault, HasFault, IsFirst, IsFirstFault}
use Rattle.model.specs.runs.Laws.{FaultsAreExact}
use Rattle.model.proofs.order.Histories.{runs_known, answered_asked, one_answer}
use Rattle.model.proofs.lists.Searches.{decide_true, decide_false, decide_not}
use Rattle.model.proofs.progress.Progress.{all_answered}
use Rattle.model.proofs.faults.Decisions.{decide_at_most, decide_meets, decide_waits, decide_free, decide_member, decide_open, decide_refused, decide_level}

-- ---- the first of some faults

-- none of some faults holds
abbrev pub NoneOf : (StepFault → Type 0) → List StepFault → Type 0
NoneOf P [] = Unit {0}
NoneOf P (f ∷ fs) = (P f → ⊥) × NoneOf P fs

-- where each fault is decided, one is the first or none holds
pub first_or_none : (P : StepFault → Type 0) → ((f : StepFault) → P f ⊎ (P f → ⊥)) → (fs : List StepFault) →
    ((f : StepFault) × IsFirst P fs f) ⊎ NoneOf P fs
first_or_none P decide [] = inr tt
first_or_none P decide (f ∷ fs) = elim (decide f) [
  | inl p ↦ inl (f, inl (refl, p))
  | inr not_here ↦ elim (first_or_none P decide fs) [
    | inl found ↦ inl (found.0, inr (not_here, found.1))
    | inr none ↦ inr (not_here, none)
  ]
]

-- the first fault holds
pub first_holds : (P : StepFault → Type 0) (fs : List StepFault) (f : StepFault) → IsFirst P fs f → P f
first_holds P [] f first = absurd first
first_holds P (g ∷ gs) f (inl here) = subst P (sym here.0) here.1
first_holds P (g ∷ gs) f (inr there) = first_holds P gs f there.1

-- one fault is the first
pub one_first : (P : StepFault → Type 0) (fs : List StepFault) (f g : StepFault) → IsFirst P fs f → IsFirst P fs g → f ≡ g
one_first P [] f g first second = absurd first
one_first P (x ∷ xs) f g (inl p) (inl q) = p.0 ∙ sym q.0
one_first P (x ∷ xs) f g (inl p) (inr q) = absurd (q.0 p.1)
one_first P (x ∷ xs) f g (inr p) (inl q) = absurd (p.0 q.1)
one_first P (x ∷ xs) f g (inr p) (inr q) = one_first P xs f g p.1 q.1

-- ---- each fault is decided

-- of asking a condition
pub decide_ask_fault : (s : Schedule) (h : List Step) (c : ℕ) → IsLawful s h → (f : StepFault) → AskFault s h c f ⊎ (AskFault s h c f → ⊥)
decide_ask_fault s h c lawful Unknown = decide_at_most _ c
decide_ask_fault s h c lawful Repeated = decide_true (was_asked h c)
decide_ask_fault s h c lawful NotReady = decide_not (decide_member s h c)
decide_ask_fault s h c lawful Conflict = decide_meets s h (access_of s c) lawful
decide_ask_fault s h c lawful _ = inr (λ none. none)

-- of a start
pub decide_start_fault : (s : Schedule) (h : List Step) (n : ℕ) → IsLawful s h → (f : StepFault) → StartFault s h n f ⊎ (StartFault s h n f → ⊥)
decide_start_fault s h n lawful Unknown = decide_at_most _ n
decide_start_fault s h n lawful Repeated = decide_true (begun h n)
decide_start_fault s h n lawful NotReady = decide_not (decide_free s h n)
decide_start_fault s h n lawful ConditionOpen = decide_open s h n
decide_start_fault s h n lawful ConditionFalse = decide_refused s h n
decide_start_fault s h n lawful Conflict = decide_meets s h (params_of s n) lawful
decide_start_fault s h n lawful _ = inr (λ none. none)

-- of a skip
pub decide_skip_fault : (s : Schedule) (h : List Step) (n : ℕ) → (f : StepFault) → SkipFault s h n f ⊎ (SkipFault s h n f → ⊥)
decide_skip_fault s h n Unknown = decide_at_most _ n
decide_skip_fault s h n Repeated = decide_true (begun h n)
decide_skip_fault s h n NotReady = decide_not (decide_free s h n)
decide_skip_fault s h n ConditionOpen = decide_open s h n
decide_skip_fault s h n ConditionTrue = decide_not (decide_refused s h n)
decide_skip_fault s h n _ = inr (λ none. none)

-- of a finish
pub decide_finish_fault : (s : Schedule) (h : List Step) (n : ℕ) → (f : StepFault) → FinishFault s h n f ⊎ (FinishFault s h n f → ⊥)
decide_finish_fault s h n Unknown = decide_at_most _ n
decide_finish_fault s h n NotRunning = decide_false (runs h n)
decide_finish_fault s h n _ = inr (λ none. none)

-- of a sync point
pub decide_sync_fault : (s : Schedule) (h : List Step) (k : ℕ) → (f : StepFault) → SyncFault s h k f ⊎ (SyncFault s h k f → ⊥)
decide_sync_fault s h k Unknown = decide_at_most _ k
decide_sync_fault s h k Repeated = decide_true (synced h k)
decide_sync_fault s h k NotReady = decide_waits h k
decide_sync_fault s h k LevelOpen = decide_level s h k
decide_sync_fault s h k _ = inr (λ none. none)

-- of a step
pub decide_fault : (s : Schedule) (h : List Step) (step : Step) → IsLawful s h → (f : StepFault) → HasFault s h step f ⊎ (HasFault s h step f → ⊥)
decide_fault s h (Cond c answer) lawful f = decide_ask_fault s h c lawful f
decide_fault s h (Start n) lawful f = decide_start_fault s h n lawful f
decide_fault s h (Skip n) lawful f = decide_skip_fault s h n f
decide_fault s h (Finish n) lawful f = decide_finish_fault s h n f
decide_fault s h (Sync k) lawful f = decide_sync_fault s h k f

-- ---- where no fault holds the step is allowed

-- a number that is not past a bound is below it
pub below_from : (m n : ℕ) → (m ≤ n → ⊥) → n < m
below_from m n none = elim (cases_lt n m) [ inl l ↦ l | inr past ↦ absurd (none past) ]

-- what can't be refuted and is decided holds
pub from_decided : {P : Type 0} → P ⊎ (P → ⊥) → ((P → ⊥) → ⊥) → P
from_decided (inl p) not_none = p
from_decided (inr none) not_none = absurd (not_none none)

-- where no fault of a step holds it is allowed
pub may_from : (s : Schedule) (h : List Step) (step : Step) → NoneOf (HasFault s h step) (faults_of step) → May s h step
may_from s h (Cond c answer) (unknown, (repeated, (not_ready, (meets, end)))) = record {
  known = below_from _ c unknown;
  fresh = false_from_ne_true _ repeated;
  member = from_decided (decide_member s h c) not_ready;
  apart = meets;
}
may_from s h (Start n) (unknown, (repeated, (not_ready, (unasked, (refused, (meets, end)))))) = record {
  free = from_decided (decide_free s h n) not_ready;
  answers = all_answered s h n (λ c e. true_from_ne_false _ (λ q. unasked (c, e, q))) refused;
  apart = meets;
}
may_from s h (Skip n) (unknown, (repeated, (not_ready, (unasked, (accepted, end))))) = record {
  free = from_decided (decide_free s h n) not_ready;
  asked = λ c e. true_from_ne_false _ (λ q. unasked (c, e, q));
  refused = from_decided (decide_refused s h n) accepted;
}
may_from s h (Finish n) (unknown, (stopped, end)) = record { running = true_from_ne_false _ stopped }
may_from s h (Sync k) (unknown, (repeated, (waiting, (level_open, end)))) = record {
  known = below_from _ k unknown;
  fresh = false_from_ne_true _ repeated;
  lower = λ j l. true_from_ne_false _ (λ q. waiting (j, l, q));
  level = λ n l e. true_from_ne_false _ (λ q. level_open (n, l, e, q));
}

-- ---- a step that is allowed has no fault

-- a number below a bound is not past it
pub not_past : (m n : ℕ) → n < m → m ≤ n → ⊥
not_past m n l past = omega arith

-- a fault refutes that the step is allowed
pub fault_refutes : (s : Schedule) (h : List Step) (step : Step) → IsLawful s h → (f : StepFault) → HasFault s h step f → May s h step → ⊥
fault_refutes s h (Cond c answer) lawful Unknown p may = not_past _ c may.known p
fault_refutes s h (Cond c answer) lawful Repeated p may = both_ways _ may.fresh p
fault_refutes s h (Cond c answer) lawful NotReady p may = p may.member
fault_refutes s h (Cond c answer) lawful Conflict p may = may.apart p
fault_refutes s h (Cond c answer) lawful _ p may = p
fault_refutes s h (Start n) lawful Unknown p may = not_past _ n may.free.known p
fault_refutes s h (Start n) lawful Repeated p may = both_ways _ may.free.waits p
fault_refutes s h (Start n) lawful NotReady p may = p may.free
fault_refutes s h (Start n) lawful ConditionOpen p may = both_ways _ p.2 (answered_asked h p.0 true (may.answers p.0 p.1))
fault_refutes s h (Start n) lawful ConditionFalse p may = one_answer s h p.0 lawful (may.answers p.0 p.1) p.2
fault_refutes s h (Start n) lawful Conflict p may = may.apart p
fault_refutes s h (Start n) lawful _ p may = p
fault_refutes s h (Skip n) lawful Unknown p may = not_past _ n may.free.known p
fault_refutes s h (Skip n) lawful Repeated p may = both_ways _ may.free.waits p
fault_refutes s h (Skip n) lawful NotReady p may = p may.free
fault_refutes s h (Skip n) lawful ConditionOpen p may = both_ways _ p.2 (may.asked p.0 p.1)
fault_refutes s h (Skip n) lawful ConditionTrue p may = p may.refused
fault_refutes s h (Skip n) lawful _ p may = p
fault_refutes s h (Finish n) lawful Unknown p may = not_past _ n (runs_known s h n lawful may.running) p
fault_refutes s h (Finish n) lawful NotRunning p may = both_ways _ p may.running
fault_refutes s h (Finish n) lawful _ p may = p
fault_refutes s h (Sync k) lawful Unknown p may = not_past _ k may.known p
fault_refutes s h (Sync k) lawful Repeated p may = both_ways _ may.fresh p
fault_refutes s h (Sync k) lawful NotReady p may = both_ways _ p.2 (may.lower p.0 p.1)
fault_refutes s h (Sync k) lawful LevelOpen p may = both_ways _ p.3 (may.level p.0 p.1 p.2)
fault_refutes s h (Sync k) lawful _ p may = p

-- faults are exact
pub faults_are_exact : FaultsAreExact
faults_are_exact s h step lawful = (
  may_or_fault,
  (λ f first may. fault_refutes s h step lawful f (first_holds (HasFault s h step) (faults_of step) f first) may),
  (λ f g first second. one_first (HasFault s h step) (faults_of step) f g first second),
)
  where
    may_or_fault : May s h step ⊎ ((f : StepFault) × IsFirstFault s h step f)
    may_or_fault = elim (first_or_none (HasFault s h step) (decide_fault s h step lawful) (faults_of step)) [
      | inl found ↦ inr found
      | inr none ↦ inl (may_from s h step none)
    ]
