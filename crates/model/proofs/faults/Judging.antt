-- The judgement by computed tests is the judgement: a test is true exactly where its fault holds, so the fault that is computed is
-- the one that is told, and none is computed exactly where the step may come.
use Rattle.std.proofs.Common.{ℕ, zero, suc, ◌<◌, ◌≤◌, Bool, true, false, not, ◌&&◌, ◌==◌, ◌≡◌, inl, inr, nat_lt, nat_le, List, [], ◌∷◌, length, find, cond, Option, Some, None, is_none, MatchOption, refl, sym, subst, arith, true≢false, le-leb, leb-true, lt-ltb, ltb-true, eq-eqb, eqb-true}
use Rattle.std.specs.List.{list_any, list_all}
use Rattle.std.proofs.lemmas.Bool.{and_parts, and_from, or_cases, or_left, or_right, both_ways, true_from_ne_false, false_from_ne_true, not_from_false, not-true, cases_order}
use Rattle.model.specs.declared.steps.Step.{Step}
use Rattle.model.specs.declared.steps.Step.TheVariants.{Cond, Start, Skip, Finish, Sync}
use Rattle.model.specs.declared.steps.StepFault.{StepFault}
use Rattle.model.specs.declared.steps.StepFault.TheVariants.{Unknown, Repeated, NotReady, ConditionOpen, ConditionFalse, ConditionTrue, Conflict, NotRunning, LevelOpen}
use Rattle.model.specs.access.Access.{Params}
use Rattle.model.specs.Lists.{has}
use Rattle.model.specs.access.Meeting.{meet}
use Rattle.model.specs.steps.Schedule.{Schedule, system_at, condition_at, params_of, access_of, level_of, covers}
use Rattle.model.specs.steps.Lawful.{begun, ended, runs, synced, was_asked, answered, sets_at, IsFree, HasFreeMember, HasOpen, HasFalse, MeetsRunning, May, IsLawful, IsComplete}
use Rattle.model.specs.steps.Faults.{WaitsForSync, IsLevelOpen, faults_of, AskFault, StartFault, SkipFault, FinishFault, SyncFault, HasFault, IsFirst, IsFirstFault}
use Rattle.model.specs.steps.Judged.{any_below, waits_for_sync, is_free, has_free_member, has_open, has_false, meets_running, is_level_open, ask_fault, start_fault, skip_fault, finish_fault, sync_fault, has_fault, fault_of, is_lawful, is_complete}
use Rattle.model.specs.runs.Laws.{FaultsAreComputed, ListsAreComputed}
use Rattle.model.proofs.serial.MeetTests.{meet-found, meet-tested}
use Rattle.model.proofs.order.Histories.{same_or, runs_known}
use Rattle.model.proofs.progress.Progress.{covered_known}
use Rattle.model.proofs.faults.ExactFaults.{NoneOf, may_from}

-- ---- a test that tells a property

-- a test is true exactly where a property holds
pub record Tells (b : Bool) (P : Type 0) : Type 0 where
  pub sound : b ≡ true → P
  pub exact : P → b ≡ true

-- a test tells that it is true
tells_true : (b : Bool) → Tells b (b ≡ true)
tells_true b = record { sound = λ e. e; exact = λ e. e }

-- its opposite tells that it is false
tells_false : (b : Bool) → Tells (not b) (b ≡ false)
tells_false b = record { sound = not-true b; exact = not_from_false b }

-- the opposite of a test tells the opposite
tells_not : (b : Bool) (P : Type 0) → Tells b P → Tells (not b) (P → ⊥)
tells_not b P t = record {
  sound = λ e p. both_ways b (not-true b e) (t.exact p);
  exact = λ none. not_from_false b (false_from_ne_true b (λ e. none (t.sound e)));
}

-- a test that is never true
tells_none : Tells false ⊥
tells_none = record { sound = λ e. true≢false (sym e); exact = λ p. absurd p }

-- numbers
tells_past : (m n : ℕ) → Tells (nat_le m n) (m ≤ n)
tells_past m n = record { sound = leb-true m n; exact = le-leb m n }

-- ---- searches

-- some number below a bound passes
abbrev SomeBelow : (ℕ → Bool) → ℕ → Type 0
SomeBelow test bound = (n : ℕ) × (n < bound) × (test n ≡ true)

found_below : (test : ℕ → Bool) (bound : ℕ) → any_below test bound ≡ true → SomeBelow test bound
found_below test zero e = absurd (true≢false (sym e))
found_below test (suc bound) e = elim (or_cases _ _ e) [
  | inl below ↦ let found : SomeBelow test bound = found_below test bound below in (found.0, omega (arith, found.1), found.2)
  | inr here ↦ (bound, omega arith, here)
]

below_found : (test : ℕ → Bool) (bound n : ℕ) → n < bound → test n ≡ true → any_below test bound ≡ true
below_found test zero n l e = absurd (omega arith)
below_found test (suc bound) n l e = elim (cases_order n bound) [
  | inl q ↦ or_right _ _ (subst (λ m. test m ≡ true) q e)
  | inr other ↦ elim other [ inl below ↦ or_left _ _ (below_found test bound n below e) | inr above ↦ absurd (omega arith) ]
]

-- each of a list passes exactly where no number of it fails
all_passed : (test : ℕ → Bool) (xs : List ℕ) → list_all test xs ≡ true → (n : ℕ) → has n xs ≡ true → test n ≡ true
all_passed test [] e n among = absurd (true≢false (sym among))
all_passed test (x ∷ xs) e n among = elim (same_or x n (has n xs) among) [
  | inl q ↦ subst (λ m. test m ≡ true) q (and_parts _ _ e).0
  | inr there ↦ all_passed test xs (and_parts _ _ e).1 n there
]

pub passed_all : (test : ℕ → Bool) (xs : List ℕ) → ((n : ℕ) → has n xs ≡ true → test n ≡ true) → list_all test xs ≡ true
passed_all test [] each = refl
passed_all test (x ∷ xs) each = and_from _ _ (each x (or_left _ _ (eq-eqb x x refl))) (passed_all test xs (λ n among. each n (or_right _ _ among)))

-- one of a list passes exactly where some number of it does
one_passed : (test : ℕ → Bool) (xs : List ℕ) → list_any test xs ≡ true → (n : ℕ) × (has n xs ≡ true) × (test n ≡ true)
one_passed test [] e = absurd (true≢false (sym e))
one_passed test (x ∷ xs) e = elim (or_cases _ _ e) [
  | inl here ↦ (x, or_left _ _ (eq-eqb x x refl), here)
  | inr there ↦ let found : (n : ℕ) × (has n xs ≡ true) × (test n ≡ true) = one_passed test xs there in (found.0, or_right _ _ found.1, found.2)
]

passed_one : (test : ℕ → Bool) (xs : List ℕ) (n : ℕ) → has n xs ≡ true → test n ≡ true → list_any test xs ≡ true
passed_one test [] n among e = absurd (true≢false (sym among))
passed_one test (x ∷ xs) n among e = elim (same_or x n (has n xs) among) [
  | inl q ↦ or_left _ _ (subst (λ m. test m ≡ true) (sym q) e)
  | inr there ↦ or_right _ _ (passed_one test xs n there e)
]

-- ---- the words of a history

tells_waits : (h : List Step) (k : ℕ) → Tells (waits_for_sync h k) (WaitsForSync h k)
tells_waits h k = record {
  sound = λ e. let found : SomeBelow (λ j. not (synced h j)) k = found_below _ k e in (found.0, found.1, not-true _ found.2);
  exact = λ waits. below_found (λ j. not (synced h j)) k waits.0 waits.1 (not_from_false _ waits.2);
}

-- a system is free exactly where the test says so
free_from_test : (s : Schedule) (h : List Step) (n : ℕ) → is_free s h n ≡ true → IsFree s h n
free_from_test s h n e =
    let first : ((nat_lt n (length s.systems) && not (begun h n) && list_all (ended h) (system_at s n).predecessors) ≡ true) × (not (waits_for_sync h (level_of s n)) ≡ true) = and_parts _ _ e in
    let second : ((nat_lt n (length s.systems) && not (begun h n)) ≡ true) × (list_all (ended h) (system_at s n).predecessors ≡ true) = and_parts _ _ first.0 in
    let third : (nat_lt n (length s.systems) ≡ true) × (not (begun h n) ≡ true) = and_parts _ _ second.0 in
    record {
      known = ltb-true n _ third.0;
      waits = not-true _ third.1;
      after = λ m edge. all_passed (ended h) _ second.1 m edge;
      over = λ k l. true_from_ne_false _ (λ q. (tells_not _ _ (tells_waits h (level_of s n))).sound first.1 (k, l, q));
    }

test_from_free : (s : Schedule) (h : List Step) (n : ℕ) → IsFree s h n → is_free s h n ≡ true
test_from_free s h n free = and_from _ _
    (and_from _ _ (and_from _ _ (lt-ltb n _ free.known) (not_from_false _ free.waits)) (passed_all (ended h) _ free.after))
    ((tells_not _ _ (tells_waits h (level_of s n))).exact (λ waits. both_ways _ waits.2 (free.over waits.0 waits.1)))

tells_free : (s : Schedule) (h : List Step) (n : ℕ) → Tells (is_free s h n) (IsFree s h n)
tells_free s h n = record { sound = free_from_test s h n; exact = test_from_free s h n }

tells_member : (s : Schedule) (h : List Step) (c : ℕ) → Tells (has_free_member s h c) (HasFreeMember s h c)
tells_member s h c = record {
  sound = λ e. let found : (n : ℕ) × (covers s c n ≡ true) × (is_free s h n ≡ true) = one_passed (is_free s h) (condition_at s c).covers e in
      (found.0, found.1, free_from_test s h found.0 found.2);
  exact = λ member. passed_one (is_free s h) (condition_at s c).covers member.0 member.1 (test_from_free s h member.0 member.2);
}

tells_open : (s : Schedule) (h : List Step) (n : ℕ) → Tells (has_open s h n) (HasOpen s h n)
tells_open s h n = record {
  sound = λ e. let found : SomeBelow (λ c. covers s c n && not (was_asked h c)) (length s.conditions) = found_below _ _ e in
      let both : (covers s found.0 n ≡ true) × (not (was_asked h found.0) ≡ true) = and_parts _ _ found.2 in
      (found.0, both.0, not-true _ both.1);
  exact = λ one. below_found (λ c. covers s c n && not (was_asked h c)) (length s.conditions) one.0 (covered_known s one.0 n one.1) (and_from _ _ one.1 (not_from_false _ one.2));
}

tells_refused : (s : Schedule) (h : List Step) (n : ℕ) → Tells (has_false s h n) (HasFalse s h n)
tells_refused s h n = record {
  sound = λ e. let found : SomeBelow (λ c. covers s c n && answered h c false) (length s.conditions) = found_below _ _ e in
      let both : (covers s found.0 n ≡ true) × (answered h found.0 false ≡ true) = and_parts _ _ found.2 in
      (found.0, both.0, both.1);
  exact = λ one. below_found (λ c. covers s c n && answered h c false) (length s.conditions) one.0 (covered_known s one.0 n one.1) (and_from _ _ one.1 one.2);
}

tells_meets : (s : Schedule) (h : List Step) (access : Params) → IsLawful s h → Tells (meets_running s h access) (MeetsRunning s h access)
tells_meets s h access lawful = record {
  sound = λ e. let found : SomeBelow (λ m. runs h m && meet (sets_at s h) (params_of s m) access) (length s.systems) = found_below _ _ e in
      let both : (runs h found.0 ≡ true) × (meet (sets_at s h) (params_of s found.0) access ≡ true) = and_parts _ _ found.2 in
      (found.0, both.0, meet-found (sets_at s h) (params_of s found.0) access both.1);
  exact = λ meets. below_found (λ m. runs h m && meet (sets_at s h) (params_of s m) access) (length s.systems) meets.0 (runs_known s h meets.0 lawful meets.1)
      (and_from _ _ meets.1 (meet-tested (sets_at s h) (params_of s meets.0) access meets.2));
}

tells_level : (s : Schedule) (h : List Step) (k : ℕ) → Tells (is_level_open s h k) (IsLevelOpen s h k)
tells_level s h k = record {
  sound = λ e. let found : SomeBelow (λ n. (level_of s n == k) && not (ended h n)) (length s.systems) = found_below _ _ e in
      let both : ((level_of s found.0 == k) ≡ true) × (not (ended h found.0) ≡ true) = and_parts _ _ found.2 in
      (found.0, found.1, eqb-true _ _ both.0, not-true _ both.1);
  exact = λ one. below_found (λ n. (level_of s n == k) && not (ended h n)) (length s.systems) one.0 one.1 (and_from _ _ (eq-eqb _ _ one.2) (not_from_false _ one.3));
}

-- ---- faults

tells_ask : (s : Schedule) (h : List Step) (c : ℕ) → IsLawful s h → (f : StepFault) → Tells (ask_fault s h c f) (AskFault s h c f)
tells_ask s h c lawful Unknown = tells_past _ c
tells_ask s h c lawful Repeated = tells_true _
tells_ask s h c lawful NotReady = tells_not _ _ (tells_member s h c)
tells_ask s h c lawful Conflict = tells_meets s h (access_of s c) lawful
tells_ask s h c lawful _ = tells_none

tells_start : (s : Schedule) (h : List Step) (n : ℕ) → IsLawful s h → (f : StepFault) → Tells (start_fault s h n f) (StartFault s h n f)
tells_start s h n lawful Unknown = tells_past _ n
tells_start s h n lawful Repeated = tells_true _
tells_start s h n lawful NotReady = tells_not _ _ (tells_free s h n)
tells_start s h n lawful ConditionOpen = tells_open s h n
tells_start s h n lawful ConditionFalse = tells_refused s h n
tells_start s h n lawful Conflict = tells_meets s h (params_of s n) lawful
tells_start s h n lawful _ = tells_none

tells_skip : (s : Schedule) (h : List Step) (n : ℕ) → (f : StepFault) → Tells (skip_fault s h n f) (SkipFault s h n f)
tells_skip s h n Unknown = tells_past _ n
tells_skip s h n Repeated = tells_true _
tells_skip s h n NotReady = tells_not _ _ (tells_free s h n)
tells_skip s h n ConditionOpen = tells_open s h n
tells_skip s h n ConditionTrue = tells_not _ _ (tells_refused s h n)
tells_skip s h n _ = tells_none

tells_finish : (s : Schedule) (h : List Step) (n : ℕ) → (f : StepFault) → Tells (finish_fault s h n f) (FinishFault s h n f)
tells_finish s h n Unknown = tells_past _ n
tells_finish s h n NotRunning = tells_false _
tells_finish s h n _ = tells_none

tells_sync : (s : Schedule) (h : List Step) (k : ℕ) → (f : StepFault) → Tells (sync_fault s h k f) (SyncFault s h k f)
tells_sync s h k Unknown = tells_past _ k
tells_sync s h k Repeated = tells_true _
tells_sync s h k NotReady = tells_waits h k
tells_sync s h k LevelOpen = tells_level s h k
tells_sync s h k _ = tells_none

tells_fault : (s : Schedule) (h : List Step) (step : Step) → IsLawful s h → (f : StepFault) → Tells (has_fault s h step f) (HasFault s h step f)
tells_fault s h (Cond c answer) lawful f = tells_ask s h c lawful f
tells_fault s h (Start n) lawful f = tells_start s h n lawful f
tells_fault s h (Skip n) lawful f = tells_skip s h n f
tells_fault s h (Finish n) lawful f = tells_finish s h n f
tells_fault s h (Sync k) lawful f = tells_sync s h k f

-- what the first fault that passes says
abbrev Found : (StepFault → Type 0) → List StepFault → Option StepFault → Type 0
Found P fs None = NoneOf P fs
Found P fs (Some f) = IsFirst P fs f

found_more : (P : StepFault → Type 0) (f : StepFault) (fs : List StepFault) (o : Option StepFault) → (P f → ⊥) → Found P fs o → Found P (f ∷ fs) o
found_more P f fs None not_here none = (not_here, none)
found_more P f fs (Some g) not_here first = inr (not_here, first)

found_first : (P : StepFault → Type 0) (test : StepFault → Bool) → ((f : StepFault) → Tells (test f) (P f)) → (fs : List StepFault) → Found P fs (find test fs)
found_first P test tells [] = tt
found_first P test tells (f ∷ fs) = go (found_first P test tells fs) (test f) refl
  where
    go : Found P fs (find test fs) → (b : Bool) → test f ≡ b → Found P (f ∷ fs) (cond b (Some f) (find test fs))
    go rest true e = inl (refl, (tells f).sound e)
    go rest false e = found_more P f fs (find test fs) (λ p. both_ways (test f) e ((tells f).exact p)) rest

judged_found : (s : Schedule) (h : List Step) (step : Step) (o : Option StepFault) → Found (HasFault s h step) (faults_of step) o → MatchOption o (May s h step) (λ f. IsFirstFault s h step f)
judged_found s h step None none = may_from s h step none
judged_found s h step (Some f) first = first

-- the computed fault is the one that is told, and where none is computed the step may come
pub faults_are_computed : FaultsAreComputed
faults_are_computed s h step lawful = judged_found s h step _ (found_first (HasFault s h step) (has_fault s h step) (tells_fault s h step lawful) (faults_of step))

-- ---- lists

may_of_none : (s : Schedule) (h : List Step) (step : Step) (o : Option StepFault) → MatchOption o (May s h step) (λ f. IsFirstFault s h step f) → is_none o ≡ true → May s h step
may_of_none s h step None may e = may
may_of_none s h step (Some f) first e = absurd (true≢false (sym e))

lawful_from_test : (s : Schedule) (h : List Step) → is_lawful s h ≡ true → IsLawful s h
lawful_from_test s [] e = tt
lawful_from_test s (step ∷ h) e =
    let parts : (is_none (fault_of s h step) ≡ true) × (is_lawful s h ≡ true) = and_parts _ _ e in
    let lawful : IsLawful s h = lawful_from_test s h parts.1 in
    (may_of_none s h step _ (faults_are_computed s h step lawful) parts.0, lawful)

none_fails : (test : ℕ → Bool) (bound : ℕ) → not (any_below (λ n. not (test n)) bound) ≡ true → (n : ℕ) → n < bound → test n ≡ true
none_fails test bound e n l = true_from_ne_false _ (λ q. both_ways _ (not-true _ e) (below_found (λ m. not (test m)) bound n l (not_from_false _ q)))

complete_from_test : (s : Schedule) (h : List Step) → is_complete s h ≡ true → IsComplete s h
complete_from_test s h e =
    let parts : (not (any_below (λ n. not (ended h n)) (length s.systems)) ≡ true) × (not (any_below (λ k. not (synced h k)) s.syncs) ≡ true) = and_parts _ _ e in
    record { ends = none_fails (ended h) _ parts.0; syncs = none_fails (synced h) _ parts.1 }

-- the tests of lists are sound
pub lists_are_computed : ListsAreComputed
lists_are_computed s h = (lawful_from_test s h, complete_from_test s h)
