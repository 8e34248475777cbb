-- Facts on lawful histories: what was started, skipped, finished, asked and synced, and what stands before it.
use Rattle.std.specs.List.{list_any}
use Rattle.std.proofs.Common.{ℕ, ◌<◌, ◌==◌, Bool, true, false, not, ◌&&◌, ◌||◌, ◌≡◌, ◌⊎◌, inl, inr, List, [], ◌∷◌, ◌++◌, length, refl, sym, ◌∙◌, subst, eqb-true, eq-eqb, true≢false}
use Rattle.std.proofs.lemmas.Bool.{or_cases, or_left, or_right, or_parts, and_parts, and_from, not-true, not_from_false, both_ways, cases_order}
use Rattle.model.specs.declared.steps.Step.{Step}
use Rattle.model.specs.declared.steps.Step.TheVariants.{Cond, Start, Skip, Finish, Sync}
use Rattle.model.specs.steps.Schedule.{Schedule, has_edge, level_of}
use Rattle.model.specs.steps.Lawful.{is_cond, is_answer, started, skipped, finished, synced, was_asked, answered, begun, ended, runs, NoneRuns, IsFree, May, MaySync, IsLawful, IsComplete}

-- ---- tests on lists

-- what is in a list is in a longer one
pub any_later : {A : Type 0} (test : A → Bool) (later h : List A) → list_any test h ≡ true → list_any test (later ++ h) ≡ true
any_later test [] h e = e
any_later test (x ∷ later) h e = or_right _ _ (any_later test later h e)

-- what passes one test passes another
pub any_weaker : {A : Type 0} (f g : A → Bool) → ((x : A) → f x ≡ true → g x ≡ true) → (xs : List A) → list_any f xs ≡ true → list_any g xs ≡ true
any_weaker f g weaker [] e = e
any_weaker f g weaker (x ∷ xs) e = elim (or_cases _ _ e) [ inl p ↦ or_left _ _ (weaker x p) | inr p ↦ or_right _ _ (any_weaker f g weaker xs p) ]

-- what passes one test passes one of two
pub any_either : {A : Type 0} (f g k : A → Bool) → ((x : A) → f x ≡ true → (g x ≡ true) ⊎ (k x ≡ true)) → (xs : List A) →
    list_any f xs ≡ true → (list_any g xs ≡ true) ⊎ (list_any k xs ≡ true)
any_either f g k either [] e = inl e
any_either f g k either (x ∷ xs) e = elim (or_cases _ _ e) [ inl p ↦ here (either x p) | inr p ↦ there (any_either f g k either xs p) ]
  where
    here : (g x ≡ true) ⊎ (k x ≡ true) → (list_any g (x ∷ xs) ≡ true) ⊎ (list_any k (x ∷ xs) ≡ true)
    here (inl p) = inl (or_left _ _ p)
    here (inr p) = inr (or_left _ _ p)

    there : (list_any g xs ≡ true) ⊎ (list_any k xs ≡ true) → (list_any g (x ∷ xs) ≡ true) ⊎ (list_any k (x ∷ xs) ≡ true)
    there (inl p) = inl (or_right _ _ p)
    there (inr p) = inr (or_right _ _ p)

-- one of two tests passes with two more
pub or_later : (a b c d : Bool) → (b || d) ≡ true → ((a || b) || (c || d)) ≡ true
or_later true b c d e = refl
or_later false true c d e = refl
or_later false false true d e = refl
or_later false false false d e = e

-- ---- fronts

-- the steps before others are lawful
pub lawful_before : (s : Schedule) (later h : List Step) → IsLawful s (later ++ h) → IsLawful s h
lawful_before s [] h lawful = lawful
lawful_before s (step ∷ later) h lawful = lawful_before s later h lawful.1

-- each step is allowed by those before it
pub may_at : (s : Schedule) (later h : List Step) (step : Step) → IsLawful s (later ++ step ∷ h) → May s h step
may_at s later h step lawful = (lawful_before s later (step ∷ h) lawful).0

-- ---- what stays

-- what has begun has begun after one more step
pub begun_later : (step : Step) (h : List Step) (n : ℕ) → begun h n ≡ true → begun (step ∷ h) n ≡ true
begun_later step h n e = or_later _ (started h n) _ (skipped h n) e

-- what has ended has ended after one more step
pub ended_later : (step : Step) (h : List Step) (n : ℕ) → ended h n ≡ true → ended (step ∷ h) n ≡ true
ended_later step h n e = or_later _ (finished h n) _ (skipped h n) e

-- what is synced is synced after one more step
pub synced_later : (step : Step) (h : List Step) (k : ℕ) → synced h k ≡ true → synced (step ∷ h) k ≡ true
synced_later step h k e = or_right _ _ e

-- ---- running

-- what runs was started and not finished
pub runs_parts : (h : List Step) (n : ℕ) → runs h n ≡ true → (started h n ≡ true) × (finished h n ≡ false)
runs_parts h n e = let p = and_parts _ _ e in (p.0, not-true _ p.1)

-- what was started and not finished runs
pub runs_from : (h : List Step) (n : ℕ) → started h n ≡ true → finished h n ≡ false → runs h n ≡ true
runs_from h n p q = and_from _ _ p (not_from_false _ q)

-- what runs has begun
pub begun_from_runs : (h : List Step) (n : ℕ) → runs h n ≡ true → begun h n ≡ true
begun_from_runs h n e = or_left _ _ (runs_parts h n e).0

-- a number is the first, or the rest passes
pub same_or : (m n : ℕ) (rest : Bool) → ((m == n) || rest) ≡ true → (m ≡ n) ⊎ (rest ≡ true)
same_or m n rest e = elim (or_cases (m == n) rest e) [ inl q ↦ inl (eqb-true m n q) | inr r ↦ inr r ]

-- what runs after a start ran before, or was started
pub runs-start : (h : List Step) (m n : ℕ) → runs (Start m ∷ h) n ≡ true → (m ≡ n) ⊎ (runs h n ≡ true)
runs-start h m n e = go (m == n) refl e
  where
    go : (b : Bool) → (m == n) ≡ b → ((b || started h n) && not (finished h n)) ≡ true → (m ≡ n) ⊎ (runs h n ≡ true)
    go true q e = inl (eqb-true m n q)
    go false q e = inr e

-- what runs after a finish ran before, and is another
pub runs-finish : (h : List Step) (m n : ℕ) → runs (Finish m ∷ h) n ≡ true → (m ≡ n → ⊥) × (runs h n ≡ true)
runs-finish h m n e = go (m == n) refl e
  where
    go : (b : Bool) → (m == n) ≡ b → (started h n && not (b || finished h n)) ≡ true → (m ≡ n → ⊥) × (runs h n ≡ true)
    go true q e = absurd (both_ways true (sym (and_parts _ _ e).1) refl)
    go false q e = ((λ same. both_ways _ q (eq-eqb m n same)), e)

-- ---- what was before

-- a finished system was started
pub finished_started : (s : Schedule) (h : List Step) (n : ℕ) → IsLawful s h → finished h n ≡ true → started h n ≡ true
finished_started s [] n lawful e = e
finished_started s (Finish m ∷ h) n lawful e = elim (same_or m n (finished h n) e) [
  | inl q ↦ subst (λ k. started h k ≡ true) q (runs_parts h m lawful.0.running).0
  | inr r ↦ finished_started s h n lawful.1 r
]
finished_started s (Start m ∷ h) n lawful e = or_right _ _ (finished_started s h n lawful.1 e)
finished_started s (Skip m ∷ h) n lawful e = finished_started s h n lawful.1 e
finished_started s (Cond c a ∷ h) n lawful e = finished_started s h n lawful.1 e
finished_started s (Sync k ∷ h) n lawful e = finished_started s h n lawful.1 e

-- what has ended has begun
pub ended_begun : (s : Schedule) (h : List Step) (n : ℕ) → IsLawful s h → ended h n ≡ true → begun h n ≡ true
ended_begun s h n lawful e = elim (or_cases _ _ e) [
  | inl f ↦ or_left _ _ (finished_started s h n lawful f)
  | inr k ↦ or_right (started h n) _ k
]

-- no system is both started and skipped
pub started_not-skipped : (s : Schedule) (h : List Step) (n : ℕ) → IsLawful s h → started h n ≡ true → skipped h n ≡ true → ⊥
started_not-skipped s [] n lawful e k = true≢false (sym e)
started_not-skipped s (Start m ∷ h) n lawful e k = elim (same_or m n (started h n) e) [
  | inl q ↦ both_ways _ (or_parts _ _ (subst (λ j. begun h j ≡ false) q lawful.0.free.waits)).1 k
  | inr r ↦ started_not-skipped s h n lawful.1 r k
]
started_not-skipped s (Skip m ∷ h) n lawful e k = elim (same_or m n (skipped h n) k) [
  | inl q ↦ both_ways _ (or_parts _ _ (subst (λ j. begun h j ≡ false) q lawful.0.free.waits)).0 e
  | inr r ↦ started_not-skipped s h n lawful.1 e r
]
started_not-skipped s (Finish m ∷ h) n lawful e k = started_not-skipped s h n lawful.1 e k
started_not-skipped s (Cond c a ∷ h) n lawful e k = started_not-skipped s h n lawful.1 e k
started_not-skipped s (Sync j ∷ h) n lawful e k = started_not-skipped s h n lawful.1 e k

-- what runs has not ended
pub runs_not-ended : (s : Schedule) (h : List Step) (n : ℕ) → IsLawful s h → runs h n ≡ true → ended h n ≡ true → ⊥
runs_not-ended s h n lawful r e = elim (or_cases _ _ e) [
  | inl f ↦ both_ways _ (runs_parts h n r).1 f
  | inr k ↦ started_not-skipped s h n lawful (runs_parts h n r).0 k
]

-- what has begun runs or has ended
pub begun_runs_or_ended : (h : List Step) (n : ℕ) → begun h n ≡ true → (runs h n ≡ true) ⊎ (ended h n ≡ true)
begun_runs_or_ended h n e = go (finished h n) refl (or_cases _ _ e)
  where
    go : (b : Bool) → finished h n ≡ b → (started h n ≡ true) ⊎ (skipped h n ≡ true) → (runs h n ≡ true) ⊎ (ended h n ≡ true)
    go true q p = inr (or_left _ _ q)
    go false q (inl p) = inl (runs_from h n p q)
    go false q (inr p) = inr (or_right (finished h n) _ p)

-- what a system that has begun found: it is known, each system with an edge to it has ended, each lower sync point is done
pub record HasBegun (s : Schedule) (h : List Step) (n : ℕ) : Type 0 where
  pub known : n < length s.systems
  pub after : (m : ℕ) → has_edge s m n ≡ true → ended h m ≡ true
  pub over : (k : ℕ) → k < level_of s n → synced h k ≡ true

-- what a free system found
pub free_found : (s : Schedule) (h : List Step) (m n : ℕ) → m ≡ n → IsFree s h m → HasBegun s h n
free_found s h m n q free = subst (HasBegun s h) q (record { known = free.known; after = free.after; over = free.over })

-- what was found stays
pub found_later : (s : Schedule) (step : Step) (h : List Step) (n : ℕ) → HasBegun s h n → HasBegun s (step ∷ h) n
found_later s step h n found = record {
  known = found.known;
  after = λ m e. ended_later step h m (found.after m e);
  over = λ k l. synced_later step h k (found.over k l);
}

-- what a system found that has begun
pub begun_found : (s : Schedule) (h : List Step) (n : ℕ) → IsLawful s h → begun h n ≡ true → HasBegun s h n
begun_found s [] n lawful e = absurd (true≢false (sym e))
begun_found s (Start m ∷ h) n lawful e = found_later s (Start m) h n (elim (or_cases _ _ e) [
  | inl p ↦ elim (same_or m n (started h n) p) [
    | inl q ↦ free_found s h m n q lawful.0.free
    | inr r ↦ begun_found s h n lawful.1 (or_left _ _ r)
  ]
  | inr k ↦ begun_found s h n lawful.1 (or_right (started h n) _ k)
])
begun_found s (Skip m ∷ h) n lawful e = found_later s (Skip m) h n (elim (or_cases (started h n) _ e) [
  | inl p ↦ begun_found s h n lawful.1 (or_left _ _ p)
  | inr k ↦ elim (same_or m n (skipped h n) k) [
    | inl q ↦ free_found s h m n q lawful.0.free
    | inr r ↦ begun_found s h n lawful.1 (or_right (started h n) _ r)
  ]
])
begun_found s (Finish m ∷ h) n lawful e = found_later s (Finish m) h n (begun_found s h n lawful.1 e)
begun_found s (Cond c a ∷ h) n lawful e = found_later s (Cond c a) h n (begun_found s h n lawful.1 e)
begun_found s (Sync k ∷ h) n lawful e = found_later s (Sync k) h n (begun_found s h n lawful.1 e)

-- what runs is known
pub runs_known : (s : Schedule) (h : List Step) (n : ℕ) → IsLawful s h → runs h n ≡ true → n < length s.systems
runs_known s h n lawful r = (begun_found s h n lawful (begun_from_runs h n r)).known

-- a started system runs
pub start_runs : (s : Schedule) (h : List Step) (n : ℕ) → IsLawful s h → IsFree s h n → runs (Start n ∷ h) n ≡ true
start_runs s h n lawful free = runs_from (Start n ∷ h) n (or_left _ _ (eq-eqb n n refl)) (go (finished h n) refl)
  where
    go : (b : Bool) → finished h n ≡ b → finished h n ≡ false
    go true q = absurd (both_ways _ (or_parts _ _ free.waits).0 (finished_started s h n lawful q))
    go false q = q

-- ---- sync points

-- the sync points below one that is done are done
pub lower_synced : (s : Schedule) (h : List Step) (j k : ℕ) → IsLawful s h → synced h k ≡ true → j < k → synced h j ≡ true
lower_synced s [] j k lawful e l = absurd (true≢false (sym e))
lower_synced s (Sync i ∷ h) j k lawful e l = or_right _ _ (elim (same_or i k (synced h k) e) [
  | inl q ↦ lawful.0.lower j (subst (λ x. j < x) (sym q) l)
  | inr r ↦ lower_synced s h j k lawful.1 r l
])
lower_synced s (Start m ∷ h) j k lawful e l = lower_synced s h j k lawful.1 e l
lower_synced s (Skip m ∷ h) j k lawful e l = lower_synced s h j k lawful.1 e l
lower_synced s (Finish m ∷ h) j k lawful e l = lower_synced s h j k lawful.1 e l
lower_synced s (Cond c a ∷ h) j k lawful e l = lower_synced s h j k lawful.1 e l

-- each system of the level of a sync point that is done has ended
pub level_ended : (s : Schedule) (h : List Step) (k n : ℕ) → IsLawful s h → synced h k ≡ true → n < length s.systems → level_of s n ≡ k → ended h n ≡ true
level_ended s [] k n lawful e known l = absurd (true≢false (sym e))
level_ended s (Sync j ∷ h) k n lawful e known l = elim (same_or j k (synced h k) e) [
  | inl q ↦ lawful.0.level n known (l ∙ sym q)
  | inr r ↦ level_ended s h k n lawful.1 r known l
]
level_ended s (Start m ∷ h) k n lawful e known l = ended_later (Start m) h n (level_ended s h k n lawful.1 e known l)
level_ended s (Skip m ∷ h) k n lawful e known l = ended_later (Skip m) h n (level_ended s h k n lawful.1 e known l)
level_ended s (Finish m ∷ h) k n lawful e known l = ended_later (Finish m) h n (level_ended s h k n lawful.1 e known l)
level_ended s (Cond c a ∷ h) k n lawful e known l = ended_later (Cond c a) h n (level_ended s h k n lawful.1 e known l)

-- a system above a sync point that is not done has not begun
pub above_waits : (s : Schedule) (h : List Step) (k n : ℕ) → IsLawful s h → synced h k ≡ false → k < level_of s n → begun h n ≡ true → ⊥
above_waits s h k n lawful fresh l e = both_ways _ fresh ((begun_found s h n lawful e).over k l)

-- at a sync point nothing runs
pub idle : (s : Schedule) (h : List Step) (k n : ℕ) → IsLawful s h → MaySync s h k → runs h n ≡ true → ⊥
idle s h k n lawful may r = elim (cases_order (level_of s n) k) [
  | inl q ↦ runs_not-ended s h n lawful r (may.level n (runs_known s h n lawful r) q)
  | inr p ↦ elim p [
    | inl below ↦ runs_not-ended s h n lawful r (level_ended s h (level_of s n) n lawful (may.lower _ below) (runs_known s h n lawful r) refl)
    | inr above ↦ above_waits s h k n lawful may.fresh above (begun_from_runs h n r)
  ]
]

-- at the end nothing runs
pub idle_at_end : (s : Schedule) (h : List Step) → IsLawful s h → IsComplete s h → NoneRuns h
idle_at_end s h lawful complete n = go (runs h n) refl
  where
    go : (b : Bool) → runs h n ≡ b → runs h n ≡ false
    go true q = absurd (runs_not-ended s h n lawful q (complete.ends n (runs_known s h n lawful q)))
    go false q = q

-- ---- answers

-- a step that answers a condition asks it
pub answer_asks : (c : ℕ) (answer : Bool) (step : Step) → is_answer c answer step ≡ true → is_cond c step ≡ true
answer_asks c true (Cond d a) e = (and_parts _ _ e).0
answer_asks c false (Cond d a) e = (and_parts _ _ e).0
answer_asks c true (Start n) e = e
answer_asks c false (Start n) e = e
answer_asks c true (Skip n) e = e
answer_asks c false (Skip n) e = e
answer_asks c true (Finish n) e = e
answer_asks c false (Finish n) e = e
answer_asks c true (Sync n) e = e
answer_asks c false (Sync n) e = e

-- a condition that answered was asked
pub answered_asked : (h : List Step) (c : ℕ) (answer : Bool) → answered h c answer ≡ true → was_asked h c ≡ true
answered_asked h c answer e = any_weaker (is_answer c answer) (is_cond c) (answer_asks c answer) h e

-- a step that asks a condition answers yes or no
pub ask_answers : (c : ℕ) (step : Step) → is_cond c step ≡ true → (is_answer c true step ≡ true) ⊎ (is_answer c false step ≡ true)
ask_answers c (Cond d true) e = inl (and_from _ _ e refl)
ask_answers c (Cond d false) e = inr (and_from _ _ e refl)
ask_answers c (Start n) e = inl e
ask_answers c (Skip n) e = inl e
ask_answers c (Finish n) e = inl e
ask_answers c (Sync n) e = inl e

-- a condition that was asked answered yes or no
pub asked_answered : (h : List Step) (c : ℕ) → was_asked h c ≡ true → (answered h c true ≡ true) ⊎ (answered h c false ≡ true)
asked_answered h c e = any_either (is_cond c) (is_answer c true) (is_answer c false) (ask_answers c) h e

-- an answer is the latest step's, or an earlier one
pub answered-cond : (h : List Step) (d : ℕ) (a : Bool) (c : ℕ) (answer : Bool) → answered (Cond d a ∷ h) c answer ≡ true →
    ((d ≡ c) × (a ≡ answer)) ⊎ (answered h c answer ≡ true)
answered-cond h d a c true e = elim (or_cases ((d == c) && a) _ e) [
  | inl p ↦ inl (let parts = and_parts (d == c) a p in (eqb-true d c parts.0, parts.1))
  | inr r ↦ inr r
]
answered-cond h d a c false e = elim (or_cases ((d == c) && not a) _ e) [
  | inl p ↦ inl (let parts = and_parts (d == c) (not a) p in (eqb-true d c parts.0, not-true a parts.1))
  | inr r ↦ inr r
]

-- a condition has one answer
pub one_answer : (s : Schedule) (h : List Step) (c : ℕ) → IsLawful s h → answered h c true ≡ true → answered h c false ≡ true → ⊥
one_answer s [] c lawful p q = true≢false (sym p)
one_answer s (Cond d a ∷ h) c lawful p q = elim (answered-cond h d a c true p) [
  | inl u ↦ elim (answered-cond h d a c false q) [
    | inl v ↦ true≢false (sym u.1 ∙ v.1)
    | inr y ↦ both_ways _ (subst (λ x. was_asked h x ≡ false) u.0 lawful.0.fresh) (answered_asked h c false y)
  ]
  | inr x ↦ elim (answered-cond h d a c false q) [
    | inl v ↦ both_ways _ (subst (λ x. was_asked h x ≡ false) v.0 lawful.0.fresh) (answered_asked h c true x)
    | inr y ↦ one_answer s h c lawful.1 x y
  ]
]
one_answer s (Start m ∷ h) c lawful p q = one_answer s h c lawful.1 p q
one_answer s (Skip m ∷ h) c lawful p q = one_answer s h c lawful.1 p q
one_answer s (Finish m ∷ h) c lawful p q = one_answer s h c lawful.1 p q
one_answer s (Sync k ∷ h) c lawful p q = one_answer s h c lawful.1 p q
