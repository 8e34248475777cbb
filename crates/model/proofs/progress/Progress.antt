-- A lawful list that isn't complete has a next step: a finish where a system runs, else a step of the least open level.
use Rattle.std.proofs.Common.{ℕ, ◌<◌, true, false, ◌≡◌, ◌⊎◌, inl, inr, List, length, refl, sym, subst, arith, true≢false}
use Rattle.std.proofs.lemmas.Bool.{cases_lt, cases_eq, cases_order, both_ways, false_from_ne_true, true_from_ne_false}
use Rattle.std.proofs.lemmas.List.{get_or_past}
use Rattle.model.specs.declared.steps.Step.{Step}
use Rattle.model.specs.declared.steps.Step.TheVariants.{Cond, Start, Skip, Finish, Sync}
use Rattle.model.specs.Lists.{has}
use Rattle.model.specs.steps.Schedule.{Schedule, has_edge, covers, level_of, ScheduledCondition}
use Rattle.model.specs.steps.Built.{IsBuilt}
use Rattle.model.specs.steps.Lawful.{begun, ended, runs, synced, was_asked, answered, NoneRuns, IsFree, HasFalse, May, IsLawful, IsComplete}
use Rattle.model.specs.runs.Laws.{ListsGoOn}
use Rattle.model.proofs.order.Histories.{begun_runs_or_ended, runs_known, level_ended, asked_answered}
use Rattle.model.proofs.lists.Searches.{decide_true, decide_false, decide_both, NoneBelow, least_below, FirstIn, first_in, found_has}

-- ---- conditions

-- a condition that covers a system is known
pub covered_known : (s : Schedule) (c n : ℕ) → covers s c n ≡ true → c < length s.conditions
covered_known s c n e = elim (cases_lt c (length s.conditions)) [
  | inl l ↦ l
  | inr past ↦ absurd (true≢false (sym (subst (λ (x : ScheduledCondition). has n x.covers ≡ true) (get_or_past s.conditions c _ past) e)))
]

-- where no covering condition is open each was asked
pub all_asked : (s : Schedule) (h : List Step) (n : ℕ) → NoneBelow (λ c. (covers s c n ≡ true) × (was_asked h c ≡ false)) (length s.conditions) →
    (c : ℕ) → covers s c n ≡ true → was_asked h c ≡ true
all_asked s h n none c e = true_from_ne_false _ (λ q. none c (covered_known s c n e) (e, q))

-- where each was asked and none answered no each answered yes
pub all_answered : (s : Schedule) (h : List Step) (n : ℕ) → ((c : ℕ) → covers s c n ≡ true → was_asked h c ≡ true) → (HasFalse s h n → ⊥) →
    (c : ℕ) → covers s c n ≡ true → answered h c true ≡ true
all_answered s h n asked none c e = elim (asked_answered h c (asked c e)) [ inl p ↦ p | inr q ↦ absurd (none (c, e, q)) ]

-- ---- the next step

-- some step is allowed
abbrev pub GoesOn : Schedule → List Step → Type 0
GoesOn s h = (step : Step) × May s h step

-- where nothing runs a free system leads to a step
pub free_goes_on : (s : Schedule) (h : List Step) (n : ℕ) → NoneRuns h → IsFree s h n → GoesOn s h
free_goes_on s h n none free = elim (least_below (λ c. (covers s c n ≡ true) × (was_asked h c ≡ false))
    (λ c. decide_both (decide_true (covers s c n)) (decide_false (was_asked h c))) (length s.conditions)) [
      | inl open_one ↦ (
        Cond open_one.number true,
        record {
          known = open_one.below;
          fresh = open_one.holds.1;
          member = (n, open_one.holds.0, free);
          apart = λ meets. both_ways _ (none meets.0) meets.1;
        },
      )
      | inr no_open ↦ elim (least_below (λ c. (covers s c n ≡ true) × (answered h c false ≡ true))
          (λ c. decide_both (decide_true (covers s c n)) (decide_true (answered h c false))) (length s.conditions)) [
            | inl refusal ↦ (
              Skip n,
              record {
                free = free;
                asked = all_asked s h n no_open;
                refused = (refusal.number, refusal.holds.0, refusal.holds.1);
              },
            )
            | inr no_refusal ↦ (
              Start n,
              record {
                free = free;
                answers = all_answered s h n (all_asked s h n no_open) (λ refused. no_refusal refused.0 (covered_known s refused.0 n refused.1) (refused.1, refused.2));
                apart = λ meets. both_ways _ (none meets.0) meets.1;
              },
            )
          ]
    ]

-- a system of the level that has not begun
abbrev pub IsUnbegun : Schedule → List Step → ℕ → ℕ → Type 0
IsUnbegun s h k n = (level_of s n ≡ k) × (begun h n ≡ false)

-- where nothing runs what has begun has ended
pub begun_ended : (h : List Step) (n : ℕ) → NoneRuns h → begun h n ≡ true → ended h n ≡ true
begun_ended h n none e = elim (begun_runs_or_ended h n e) [ inl r ↦ absurd (both_ways _ (none n) r) | inr p ↦ p ]

-- where nothing runs a system of the level that is no unbegun one has ended
pub level_member_ended : (s : Schedule) (h : List Step) (k n : ℕ) → NoneRuns h → (IsUnbegun s h k n → ⊥) → level_of s n ≡ k → ended h n ≡ true
level_member_ended s h k n none began l = begun_ended h n none (true_from_ne_false _ (λ q. began (l, q)))

-- the first unbegun system of the least open level is free
pub first_free : (s : Schedule) (h : List Step) (k : ℕ) → IsBuilt s → IsLawful s h → NoneRuns h →
    ((j : ℕ) → j < k → synced h j ≡ true) → (found : FirstIn (IsUnbegun s h k) s.order) → IsFree s h found.number
first_free s h k built lawful none lower found = record {
  known = built.known found.number (found_has (IsUnbegun s h k) s.order found);
  waits = found.holds.1;
  after = λ m e. go m e (cases_order (level_of s m) k);
  over = λ j l. lower j (subst (λ x. j < x) found.holds.0 l);
}
  where
    go : (m : ℕ) → has_edge s m found.number ≡ true → (level_of s m ≡ k) ⊎ ((level_of s m < k) ⊎ (k < level_of s m)) → ended h m ≡ true
    go m e (inl same) = level_member_ended s h k m none (found.first m (built.after found.front found.rest found.number found.splits m e)) same
    go m e (inr (inl below)) = level_ended s h (level_of s m) m lawful (lower _ below) (built.sources m found.number e) refl
    go m e (inr (inr above)) = absurd (omega (arith, built.rising m found.number e, found.holds.0))

-- at the least sync point that is not done there is a step
pub level_goes_on : (s : Schedule) (h : List Step) (k : ℕ) → IsBuilt s → IsLawful s h → NoneRuns h → k < s.syncs → synced h k ≡ false →
    ((j : ℕ) → j < k → synced h j ≡ true) → GoesOn s h
level_goes_on s h k built lawful none known fresh lower = elim (first_in (IsUnbegun s h k)
    (λ n. decide_both (cases_eq (level_of s n) k) (decide_false (begun h n))) s.order) [
      | inl found ↦ free_goes_on s h found.number none (first_free s h k built lawful none lower found)
      | inr all_begun ↦ (
        Sync k,
        record {
          known = known;
          fresh = fresh;
          lower = lower;
          level = λ n l same. level_member_ended s h k n none (all_begun n (built.listed n l)) same;
        },
      )
    ]

-- where each sync point is done the list is complete
pub all_synced : (s : Schedule) (h : List Step) → IsBuilt s → IsLawful s h → ((k : ℕ) → k < s.syncs → synced h k ≡ true) → IsComplete s h
all_synced s h built lawful synced_all = record {
  ends = λ n l. level_ended s h (level_of s n) n lawful (synced_all _ (built.levels n l)) l refl;
  syncs = synced_all;
}

-- a lawful list is complete or has a next step
pub continues : (s : Schedule) (h : List Step) → IsBuilt s → IsLawful s h → IsComplete s h ⊎ GoesOn s h
continues s h built lawful = elim (least_below (λ n. runs h n ≡ true) (λ n. decide_true (runs h n)) (length s.systems)) [
  | inl running ↦ inr (Finish running.number, record { running = running.holds })
  | inr none ↦ elim (least_below (λ k. synced h k ≡ false) (λ k. decide_false (synced h k)) s.syncs) [
    | inl open_one ↦ inr (level_goes_on s h open_one.number built lawful (none_runs none) open_one.below open_one.holds
        (λ j l. true_from_ne_false _ (open_one.least j l)))
    | inr no_open ↦ inl (all_synced s h built lawful (λ k l. true_from_ne_false _ (no_open k l)))
  ]
]
  where
    none_runs : NoneBelow (λ n. runs h n ≡ true) (length s.systems) → NoneRuns h
    none_runs none n = false_from_ne_true _ (λ r. none n (runs_known s h n lawful r) r)

-- a lawful list that isn't complete has a next step
pub lists_go_on : ListsGoOn
lists_go_on s h built lawful open_list = elim (continues s h built lawful) [ inl complete ↦ absurd (open_list complete) | inr next ↦ next ]
