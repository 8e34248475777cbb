-- What the laws of faults ask of a history is decided: each word holds or is refuted, by a test or a bounded search.
use Rattle.std.proofs.Common.{ℕ, ◌≤◌, true, false, ◌≡◌, ◌⊎◌, inl, inr, List, length, Option, arith}
use Rattle.std.proofs.lemmas.Bool.{cases_lt, cases_eq, both_ways, true_from_ne_false}
use Rattle.model.specs.declared.steps.Step.{Step}
use Rattle.model.specs.access.Access.{Params}
use Rattle.model.specs.access.Meeting.{Meet, meet}
use Rattle.model.specs.steps.Schedule.{Schedule, system_at, condition_at, covers, level_of, params_of}
use Rattle.model.specs.steps.Lawful.{begun, ended, runs, synced, was_asked, answered, sets_at, MeetsRunning, IsFree, HasFreeMember, HasOpen, HasFalse, IsLawful}
use Rattle.model.specs.steps.Faults.{WaitsForSync, IsLevelOpen}
use Rattle.model.proofs.serial.MeetTests.{meet-found, meet-tested}
use Rattle.model.proofs.order.Histories.{runs_known}
use Rattle.model.proofs.lists.Searches.{decide_true, decide_false, decide_both, least_below, FirstIn, NoneIn, first_in, found_has}
use Rattle.model.proofs.progress.Progress.{covered_known}

-- a number is at least another or not
pub decide_at_most : (m n : ℕ) → (m ≤ n) ⊎ (m ≤ n → ⊥)
decide_at_most m n = elim (cases_lt n m) [ inl l ↦ inr (λ k. omega arith) | inr k ↦ inl k ]

-- two accesses meet or not
pub decide_meet : (sets : Option (List ℕ)) (a b : Params) → Meet sets a b ⊎ (Meet sets a b → ⊥)
decide_meet sets a b = elim (decide_true (meet sets a b)) [
  | inl e ↦ inl (meet-found sets a b e)
  | inr none ↦ inr (λ c. none (meet-tested sets a b c))
]

-- a running system meets an access or none does
pub decide_meets : (s : Schedule) (h : List Step) (access : Params) → IsLawful s h → MeetsRunning s h access ⊎ (MeetsRunning s h access → ⊥)
decide_meets s h access lawful = elim (least_below (λ m. (runs h m ≡ true) × Meet (sets_at s h) (params_of s m) access)
    (λ m. decide_both (decide_true (runs h m)) (decide_meet (sets_at s h) (params_of s m) access)) (length s.systems)) [
      | inl found ↦ inl (found.number, found.holds.0, found.holds.1)
      | inr none ↦ inr (λ meets. none meets.0 (runs_known s h meets.0 lawful meets.1) (meets.1, meets.2))
    ]

-- a system with an edge to this one hasn't ended, or all have
pub decide_after : (s : Schedule) (h : List Step) (n : ℕ) →
    FirstIn (λ m. ended h m ≡ false) (system_at s n).predecessors ⊎ NoneIn (λ m. ended h m ≡ false) (system_at s n).predecessors
decide_after s h n = first_in (λ m. ended h m ≡ false) (λ m. decide_false (ended h m)) (system_at s n).predecessors

-- a lower sync point isn't done, or all are
pub decide_waits : (h : List Step) (k : ℕ) → WaitsForSync h k ⊎ (WaitsForSync h k → ⊥)
decide_waits h k = elim (least_below (λ j. synced h j ≡ false) (λ j. decide_false (synced h j)) k) [
  | inl found ↦ inl (found.number, found.below, found.holds)
  | inr none ↦ inr (λ waits. none waits.0 waits.1 waits.2)
]

-- a system is free or not
pub decide_free : (s : Schedule) (h : List Step) (n : ℕ) → IsFree s h n ⊎ (IsFree s h n → ⊥)
decide_free s h n = elim (cases_lt n (length s.systems)) [
  | inl known ↦ elim (decide_false (begun h n)) [
    | inl waits ↦ elim (decide_after s h n) [
      | inl early ↦ inr (λ free. both_ways _ early.holds (free.after early.number (found_has (λ m. ended h m ≡ false) _ early)))
      | inr after ↦ elim (decide_waits h (level_of s n)) [
        | inl low ↦ inr (λ free. both_ways _ low.2 (free.over low.0 low.1))
        | inr over ↦ inl (record {
          known = known;
          waits = waits;
          after = λ m e. true_from_ne_false _ (after m e);
          over = λ k l. true_from_ne_false _ (λ q. over (k, l, q));
        })
      ]
    ]
    | inr begun_one ↦ inr (λ free. begun_one free.waits)
  ]
  | inr unknown ↦ inr (λ free. omega (arith, free.known))
]

-- a condition has a free member or none
pub decide_member : (s : Schedule) (h : List Step) (c : ℕ) → HasFreeMember s h c ⊎ (HasFreeMember s h c → ⊥)
decide_member s h c = elim (first_in (IsFree s h) (decide_free s h) (condition_at s c).covers) [
  | inl found ↦ inl (found.number, found_has (IsFree s h) _ found, found.holds)
  | inr none ↦ inr (λ member. none member.0 member.1 member.2)
]

-- a condition of a system is open or none is
pub decide_open : (s : Schedule) (h : List Step) (n : ℕ) → HasOpen s h n ⊎ (HasOpen s h n → ⊥)
decide_open s h n = elim (least_below (λ c. (covers s c n ≡ true) × (was_asked h c ≡ false))
    (λ c. decide_both (decide_true (covers s c n)) (decide_false (was_asked h c))) (length s.conditions)) [
      | inl found ↦ inl (found.number, found.holds.0, found.holds.1)
      | inr none ↦ inr (λ one. none one.0 (covered_known s one.0 n one.1) (one.1, one.2))
    ]

-- a condition of a system answered no or none did
pub decide_refused : (s : Schedule) (h : List Step) (n : ℕ) → HasFalse s h n ⊎ (HasFalse s h n → ⊥)
decide_refused s h n = elim (least_below (λ c. (covers s c n ≡ true) × (answered h c false ≡ true))
    (λ c. decide_both (decide_true (covers s c n)) (decide_true (answered h c false))) (length s.conditions)) [
      | inl found ↦ inl (found.number, found.holds.0, found.holds.1)
      | inr none ↦ inr (λ one. none one.0 (covered_known s one.0 n one.1) (one.1, one.2))
    ]

-- a system of a level hasn't ended or all have
pub decide_level : (s : Schedule) (h : List Step) (k : ℕ) → IsLevelOpen s h k ⊎ (IsLevelOpen s h k → ⊥)
decide_level s h k = elim (least_below (λ n. (level_of s n ≡ k) × (ended h n ≡ false))
    (λ n. decide_both (cases_eq (level_of s n) k) (decide_false (ended h n))) (length s.systems)) [
      | inl found ↦ inl (found.number, found.below, found.holds.0, found.holds.1)
      | inr none ↦ inr (λ one. none one.0 one.1 (one.2, one.3))
    ]
