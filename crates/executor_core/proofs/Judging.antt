-- From the sets of a core to what each step asks, for each history for which the core stands.
use Rattle.std.proofs.Common.{ℕ, ◌<◌, ◌≤◌, Bool, true, false, not, ◌&&◌, nat_lt, ◌≡◌, ◌⊎◌, inl, inr, List, [], ◌∷◌, length, Option, Some, None, refl, sym, ◌∙◌, subst, arith, lt-ltb, ltb-true}
use Rattle.std.proofs.lemmas.Bool.{both_ways, true_from_ne_false, false_from_ne_true, false≢true, cases_lt, cases_order}
use Rattle.number_set.specs.Members.{contains}
use Rattle.model.specs.declared.steps.Step.{Step}
use Rattle.model.specs.declared.steps.Step.TheVariants.{Cond, Start, Skip, Finish, Sync}
use Rattle.model.specs.declared.steps.StepFault.TheVariants.{Repeated, NotReady, ConditionOpen, ConditionFalse, ConditionTrue, NotRunning, LevelOpen}
use Rattle.model.specs.declared.steps.StepFault.{StepFault}
use Rattle.model.specs.declared.steps.StepFault.TheVariants as fault
use Rattle.model.specs.steps.Schedule.{recording, params_of, access_of, level_of, covers}
use Rattle.model.specs.steps.Built.{IsBuilt}
use Rattle.model.specs.steps.Lawful.{ended, runs, synced, was_asked, answered, IsFree, HasFreeMember, HasOpen, HasFalse, MeetsRunning, MayAsk, MayStart, MaySkip, MayFinish, MaySync}
use Rattle.model.specs.steps.Faults.{StartFault, SkipFault, IsFirst, IsFirstFault}
use Rattle.model.proofs.order.Histories.{begun_from_runs, begun_runs_or_ended, runs_not-ended, runs_known, asked_answered, answered_asked, one_answer}
use Rattle.model.proofs.faults.Decisions.{decide_meets}
use Rattle.executor_core.specs.Stands.{Stand, Stands}
use Rattle.executor_core.specs.Judges.{NoneMeets, NoneClashes, IsReleased, IsWaiting, HasWaitingMember, HasUnasked, HasRefusing, IsOpen}

-- what is told as false is refuted
pub told_no : {P : Type 0} → (false ≡ true → P) × (P → false ≡ true) → P → ⊥
told_no tells p = false≢true (tells.1 p)

-- ---- numbers as tests

not_below : (k : ℕ) → nat_lt k k ≡ false
not_below k = false_from_ne_true (nat_lt k k) (λ e. let low : k < k = ltb-true k k e in omega arith)

not_below_past : (j k : ℕ) → k ≤ j → nat_lt j k ≡ false
not_below_past j k past = false_from_ne_true (nat_lt j k) (λ e. let low : j < k = ltb-true j k e in omega arith)

-- ---- what a history says where a core stands for it

-- a sync point below the number of those done is done
pub done_below : (core : Stand) (sets : Option (List (List ℕ))) (h : List Step) → Stands core sets h → (k : ℕ) → k < core.done → synced h k ≡ true
done_below core sets h stands k low = stands.syncs k ∙ lt-ltb k core.done low

-- the next one isn't
pub next_fresh : (core : Stand) (sets : Option (List (List ℕ))) (h : List Step) → Stands core sets h → (k : ℕ) → core.done ≤ k → synced h k ≡ false
next_fresh core sets h stands k past = stands.syncs k ∙ not_below_past k core.done past

-- what has begun and is not over runs
pub runs_of_sets : (core : Stand) (sets : Option (List (List ℕ))) (h : List Step) → Stands core sets h → (n : ℕ) → contains core.begun n ≡ true → contains core.over n ≡ false → runs h n ≡ true
runs_of_sets core sets h stands n b o = elim (begun_runs_or_ended h n (stands.begins n ∙ b)) [
  | inl r ↦ r
  | inr e ↦ absurd (both_ways _ (stands.ends n ∙ o) e)
]

-- what runs has begun and is not over
pub sets_of_runs : (core : Stand) (sets : Option (List (List ℕ))) (h : List Step) → Stands core sets h → (n : ℕ) → runs h n ≡ true → (contains core.begun n ≡ true) × (contains core.over n ≡ false)
sets_of_runs core sets h stands n r = (
  sym (stands.begins n) ∙ begun_from_runs h n r,
  sym (stands.ends n) ∙ false_from_ne_true (ended h n) (λ e. runs_not-ended (recording core.schedule sets) h n stands.lawful r e),
)

-- so a system runs exactly where the sets say so
pub runs_is : (core : Stand) (sets : Option (List (List ℕ))) (h : List Step) → Stands core sets h → (n : ℕ) → runs h n ≡ (contains core.begun n && not (contains core.over n))
runs_is core sets h stands n = go (contains core.begun n) (contains core.over n) refl refl
  where
    go : (b o : Bool) → contains core.begun n ≡ b → contains core.over n ≡ o → runs h n ≡ (b && not o)
    go true false p q = runs_of_sets core sets h stands n p q
    go true true p q = false_from_ne_true _ (λ r. both_ways _ (sets_of_runs core sets h stands n r).1 q)
    go false false p q = false_from_ne_true _ (λ r. both_ways _ p (sets_of_runs core sets h stands n r).0)
    go false true p q = false_from_ne_true _ (λ r. both_ways _ p (sets_of_runs core sets h stands n r).0)

-- ---- free systems

-- a released system that hasn't begun is free
pub free_from : (core : Stand) (sets : Option (List (List ℕ))) (h : List Step) (n : ℕ) → Stands core sets h → n < length core.schedule.systems → contains core.begun n ≡ false → IsReleased core n → IsFree (recording core.schedule sets) h n
free_from core sets h n stands known fresh released = record {
  known = known;
  waits = stands.begins n ∙ fresh;
  after = λ m edge. stands.ends m ∙ released.after m edge;
  over = λ k low. let level : level_of core.schedule n ≤ core.done = released.level in done_below core sets h stands k (omega arith);
}

-- a free system is released
pub released_from : (core : Stand) (sets : Option (List (List ℕ))) (h : List Step) (n : ℕ) → Stands core sets h → IsFree (recording core.schedule sets) h n → IsReleased core n
released_from core sets h n stands free = record {
  after = λ m edge. sym (stands.ends m) ∙ free.after m edge;
  level = elim (cases_lt core.done (level_of core.schedule n)) [
    | inl low ↦ absurd (both_ways _ (next_fresh core sets h stands core.done (omega arith)) (free.over core.done low))
    | inr high ↦ high
  ];
}

-- ---- conflicts

-- rows are due, or they aren't
pub due_is : (d : Option (List ℕ)) → (d ≡ None) ⊎ ((there : List ℕ) × (d ≡ Some there))
due_is None = inl refl
due_is (Some there) = inr (there, refl)

-- where each system that meets this one and has begun is over no running system meets it
pub no_meeting : (core : Stand) (sets : Option (List (List ℕ))) (h : List Step) (n : ℕ) → Stands core sets h → NoneMeets core n → MeetsRunning (recording core.schedule sets) h (params_of core.schedule n) → ⊥
no_meeting core sets h n stands none meets =
    let bits = sets_of_runs core sets h stands meets.0 meets.1 in
    let known : meets.0 < length core.schedule.systems = runs_known (recording core.schedule sets) h meets.0 stands.lawful meets.1 in
    elim (due_is core.due) [
      | inl rows ↦ both_ways _ bits.1 (none meets.0 ((stands.meets n meets.0 rows).1 (known, meets.2)) bits.0)
      | inr due ↦ both_ways _ bits.1 ((stands.due due.0 due.1).0 meets.0 bits.0)
    ]

-- and the other way round
pub meeting : (core : Stand) (sets : Option (List (List ℕ))) (h : List Step) (n : ℕ) → Stands core sets h → (NoneMeets core n → ⊥) → MeetsRunning (recording core.schedule sets) h (params_of core.schedule n)
meeting core sets h n stands some = elim (decide_meets (recording core.schedule sets) h (params_of core.schedule n) stands.lawful) [
  | inl meets ↦ meets
  | inr none ↦
      absurd (some (λ m rival b. elim (due_is core.due) [
        | inl rows ↦ true_from_ne_false (contains core.over m) (λ o. none (m, runs_of_sets core sets h stands m b o, ((stands.meets n m rows).0 rival).1))
        | inr due ↦ (stands.due due.0 due.1).0 m b
      ]))
]

-- ---- conditions

-- a condition of the system that was not asked is open, and the other way round
pub open_from : (core : Stand) (sets : Option (List (List ℕ))) (h : List Step) (n : ℕ) → Stands core sets h → HasUnasked core n → HasOpen (recording core.schedule sets) h n
open_from core sets h n stands one = (one.0, one.1, stands.asks one.0 ∙ one.2)

pub unasked_from : (core : Stand) (sets : Option (List (List ℕ))) (h : List Step) (n : ℕ) → Stands core sets h → HasOpen (recording core.schedule sets) h n → HasUnasked core n
unasked_from core sets h n stands one = (one.0, one.1, sym (stands.asks one.0) ∙ one.2)

-- one that was asked and did not answer yes answered no, and the other way round
pub false_from : (core : Stand) (sets : Option (List (List ℕ))) (h : List Step) (n : ℕ) → Stands core sets h → HasRefusing core n → HasFalse (recording core.schedule sets) h n
false_from core sets h n stands one = elim (asked_answered h one.0 (stands.asks one.0 ∙ one.2)) [
  | inl e ↦ absurd (both_ways (contains core.yes one.0) one.3 (sym (stands.yeses one.0) ∙ e))
  | inr e ↦ (one.0, one.1, e)
]

pub refusing_from : (core : Stand) (sets : Option (List (List ℕ))) (h : List Step) (n : ℕ) → Stands core sets h → HasFalse (recording core.schedule sets) h n → HasRefusing core n
refusing_from core sets h n stands one = (
  one.0,
  one.1,
  sym (stands.asks one.0) ∙ answered_asked h one.0 false one.2,
  false_from_ne_true (contains core.yes one.0) (λ e. one_answer (recording core.schedule sets) h one.0 stands.lawful (stands.yeses one.0 ∙ e) one.2),
)

-- where none is open and none refuses all were asked, and answered yes
pub all_asked : (core : Stand) (sets : Option (List (List ℕ))) (h : List Step) (n : ℕ) → Stands core sets h → (HasUnasked core n → ⊥) → (c : ℕ) → covers core.schedule c n ≡ true → was_asked h c ≡ true
all_asked core sets h n stands none c e = stands.asks c ∙ true_from_ne_false (contains core.asked c) (λ o. none (c, e, o))

all_yes : (core : Stand) (sets : Option (List (List ℕ))) (h : List Step) (n : ℕ) → Stands core sets h → (HasUnasked core n → ⊥) → (HasRefusing core n → ⊥) → (c : ℕ) → covers core.schedule c n ≡ true → answered h c true ≡ true
all_yes core sets h n stands none agreed c e = stands.yeses c ∙ true_from_ne_false (contains core.yes c) (λ o. agreed (c, e, sym (stands.asks c) ∙ all_asked core sets h n stands none c e, o))

-- where each system that meets what is asked and has begun is over no running system meets it
pub no_clash : (core : Stand) (sets : Option (List (List ℕ))) (h : List Step) (c : ℕ) → Stands core sets h → NoneClashes core c → MeetsRunning (recording core.schedule sets) h (access_of core.schedule c) → ⊥
no_clash core sets h c stands none meets =
    let bits = sets_of_runs core sets h stands meets.0 meets.1 in
    let known : meets.0 < length core.schedule.systems = runs_known (recording core.schedule sets) h meets.0 stands.lawful meets.1 in
    elim (due_is core.due) [
      | inl rows ↦ both_ways _ bits.1 (none meets.0 ((stands.clashes c meets.0 rows).1 (known, meets.2)) bits.0)
      | inr due ↦ both_ways _ bits.1 ((stands.due due.0 due.1).0 meets.0 bits.0)
    ]

-- and the other way round
pub clash : (core : Stand) (sets : Option (List (List ℕ))) (h : List Step) (c : ℕ) → Stands core sets h → (NoneClashes core c → ⊥) → MeetsRunning (recording core.schedule sets) h (access_of core.schedule c)
clash core sets h c stands some = elim (decide_meets (recording core.schedule sets) h (access_of core.schedule c) stands.lawful) [
  | inl meets ↦ meets
  | inr none ↦
      absurd (some (λ m rival b. elim (due_is core.due) [
        | inl rows ↦ true_from_ne_false (contains core.over m) (λ o. none (m, runs_of_sets core sets h stands m b o, ((stands.clashes c m rows).0 rival).1))
        | inr due ↦ (stands.due due.0 due.1).0 m b
      ]))
]

-- a waiting system is free, and the other way round
pub free_waiting : (core : Stand) (sets : Option (List (List ℕ))) (h : List Step) (n : ℕ) → Stands core sets h → n < length core.schedule.systems → IsWaiting core n → IsFree (recording core.schedule sets) h n
free_waiting core sets h n stands known waiting = free_from core sets h n stands known waiting.fresh waiting.released

pub waiting_free : (core : Stand) (sets : Option (List (List ℕ))) (h : List Step) (n : ℕ) → Stands core sets h → IsFree (recording core.schedule sets) h n → IsWaiting core n
waiting_free core sets h n stands free = record { fresh = sym (stands.begins n) ∙ free.waits; released = released_from core sets h n stands free }

pub past_none : (n count : ℕ) → n < count → count ≤ n → ⊥
past_none n count low past = omega arith

-- ---- starts and skips

pub start_not-ready : (core : Stand) (sets : Option (List (List ℕ))) (h : List Step) (n : ℕ) → Stands core sets h → n < length core.schedule.systems → contains core.begun n ≡ false → (IsReleased core n → ⊥) →
    IsFirstFault (recording core.schedule sets) h (Start n) NotReady
start_not-ready core sets h n stands known fresh waits =
    inr (past_none n _ known, inr (both_ways _ (stands.begins n ∙ fresh), inl (refl, λ free. waits (released_from core sets h n stands free))))

-- what is known of a system that was found released: no fault before those of its conditions
start_passes : (core : Stand) (sets : Option (List (List ℕ))) (h : List Step) (n : ℕ) (told : StepFault) → Stands core sets h → n < length core.schedule.systems → contains core.begun n ≡ false → IsReleased core n →
    IsFirst (StartFault (recording core.schedule sets) h n) (ConditionOpen ∷ ConditionFalse ∷ fault.Conflict ∷ []) told → IsFirstFault (recording core.schedule sets) h (Start n) told
start_passes core sets h n told stands known fresh released rest =
    inr (
      past_none n _ known,
      inr (both_ways _ (stands.begins n ∙ fresh), inr ((λ not_free. not_free (free_from core sets h n stands known fresh released)), rest)),
    )

pub start_open : (core : Stand) (sets : Option (List (List ℕ))) (h : List Step) (n : ℕ) → Stands core sets h → n < length core.schedule.systems → contains core.begun n ≡ false → IsReleased core n → HasUnasked core n →
    IsFirstFault (recording core.schedule sets) h (Start n) ConditionOpen
start_open core sets h n stands known fresh released one = start_passes core sets h n ConditionOpen stands known fresh released (inl (refl, open_from core sets h n stands one))

pub start_false : (core : Stand) (sets : Option (List (List ℕ))) (h : List Step) (n : ℕ) → Stands core sets h → n < length core.schedule.systems → contains core.begun n ≡ false → IsReleased core n → (HasUnasked core n → ⊥) → HasRefusing core n →
    IsFirstFault (recording core.schedule sets) h (Start n) ConditionFalse
start_false core sets h n stands known fresh released none one =
    start_passes core sets h n ConditionFalse stands known fresh released (inr ((λ open_one. none (unasked_from core sets h n stands open_one)), inl (refl, false_from core sets h n stands one)))

pub start_conflict : (core : Stand) (sets : Option (List (List ℕ))) (h : List Step) (n : ℕ) → Stands core sets h → n < length core.schedule.systems → contains core.begun n ≡ false → IsReleased core n →
    (HasUnasked core n → ⊥) → (HasRefusing core n → ⊥) → (NoneMeets core n → ⊥) → IsFirstFault (recording core.schedule sets) h (Start n) fault.Conflict
start_conflict core sets h n stands known fresh released none agreed some =
    start_passes core sets h n fault.Conflict stands known fresh released
    (inr ((λ open_one. none (unasked_from core sets h n stands open_one)), inr ((λ false_one. agreed (refusing_from core sets h n stands false_one)), inl (refl, meeting core sets h n stands some))))

pub start_may : (core : Stand) (sets : Option (List (List ℕ))) (h : List Step) (n : ℕ) → Stands core sets h → n < length core.schedule.systems → contains core.begun n ≡ false → IsReleased core n →
    (HasUnasked core n → ⊥) → (HasRefusing core n → ⊥) → NoneMeets core n → MayStart (recording core.schedule sets) h n
start_may core sets h n stands known fresh released none agreed clear = record {
  free = free_from core sets h n stands known fresh released;
  answers = all_yes core sets h n stands none agreed;
  apart = no_meeting core sets h n stands clear;
}

pub skip_not-ready : (core : Stand) (sets : Option (List (List ℕ))) (h : List Step) (n : ℕ) → Stands core sets h → n < length core.schedule.systems → contains core.begun n ≡ false → (IsReleased core n → ⊥) →
    IsFirstFault (recording core.schedule sets) h (Skip n) NotReady
skip_not-ready core sets h n stands known fresh waits =
    inr (past_none n _ known, inr (both_ways _ (stands.begins n ∙ fresh), inl (refl, λ free. waits (released_from core sets h n stands free))))

skip_passes : (core : Stand) (sets : Option (List (List ℕ))) (h : List Step) (n : ℕ) (told : StepFault) → Stands core sets h → n < length core.schedule.systems → contains core.begun n ≡ false → IsReleased core n →
    IsFirst (SkipFault (recording core.schedule sets) h n) (ConditionOpen ∷ ConditionTrue ∷ []) told → IsFirstFault (recording core.schedule sets) h (Skip n) told
skip_passes core sets h n told stands known fresh released rest =
    inr (
      past_none n _ known,
      inr (both_ways _ (stands.begins n ∙ fresh), inr ((λ not_free. not_free (free_from core sets h n stands known fresh released)), rest)),
    )

pub skip_open : (core : Stand) (sets : Option (List (List ℕ))) (h : List Step) (n : ℕ) → Stands core sets h → n < length core.schedule.systems → contains core.begun n ≡ false → IsReleased core n → HasUnasked core n →
    IsFirstFault (recording core.schedule sets) h (Skip n) ConditionOpen
skip_open core sets h n stands known fresh released one = skip_passes core sets h n ConditionOpen stands known fresh released (inl (refl, open_from core sets h n stands one))

pub skip_true : (core : Stand) (sets : Option (List (List ℕ))) (h : List Step) (n : ℕ) → Stands core sets h → n < length core.schedule.systems → contains core.begun n ≡ false → IsReleased core n → (HasUnasked core n → ⊥) → (HasRefusing core n → ⊥) →
    IsFirstFault (recording core.schedule sets) h (Skip n) ConditionTrue
skip_true core sets h n stands known fresh released none agreed =
    skip_passes core sets h n ConditionTrue stands known fresh released
    (inr ((λ open_one. none (unasked_from core sets h n stands open_one)), inl (refl, λ false_one. agreed (refusing_from core sets h n stands false_one))))

pub skip_may : (core : Stand) (sets : Option (List (List ℕ))) (h : List Step) (n : ℕ) → Stands core sets h → n < length core.schedule.systems → contains core.begun n ≡ false → IsReleased core n → (HasUnasked core n → ⊥) → HasRefusing core n →
    MaySkip (recording core.schedule sets) h n
skip_may core sets h n stands known fresh released none one = record {
  free = free_from core sets h n stands known fresh released;
  asked = all_asked core sets h n stands none;
  refused = false_from core sets h n stands one;
}

-- ---- conditions that are asked

pub ask_repeated : (core : Stand) (sets : Option (List (List ℕ))) (h : List Step) (c : ℕ) (answer : Bool) → Stands core sets h → c < length core.schedule.conditions → contains core.asked c ≡ true → IsFirstFault (recording core.schedule sets) h (Cond c answer) Repeated
ask_repeated core sets h c answer stands known asked = inr (past_none c _ known, inl (refl, stands.asks c ∙ asked))

pub ask_not-ready : (core : Stand) (sets : Option (List (List ℕ))) (h : List Step) (c : ℕ) (answer : Bool) → Stands core sets h → c < length core.schedule.conditions → contains core.asked c ≡ false → (HasWaitingMember core c → ⊥) →
    IsFirstFault (recording core.schedule sets) h (Cond c answer) NotReady
ask_not-ready core sets h c answer stands known fresh none =
    inr (past_none c _ known, inr (both_ways _ (stands.asks c ∙ fresh), inl (refl, λ member. none (member.0, member.1, waiting_free core sets h member.0 stands member.2))))

-- a waiting member is a free one
free_member : (core : Stand) (sets : Option (List (List ℕ))) (h : List Step) (c : ℕ) → Stands core sets h → IsBuilt core.schedule → HasWaitingMember core c → HasFreeMember (recording core.schedule sets) h c
free_member core sets h c stands built one = (one.0, one.1, free_waiting core sets h one.0 stands (built.covered c one.0 one.1) one.2)

pub ask_conflict : (core : Stand) (sets : Option (List (List ℕ))) (h : List Step) (c : ℕ) (answer : Bool) → Stands core sets h → IsBuilt core.schedule → c < length core.schedule.conditions → contains core.asked c ≡ false → HasWaitingMember core c →
    (NoneClashes core c → ⊥) → IsFirstFault (recording core.schedule sets) h (Cond c answer) fault.Conflict
ask_conflict core sets h c answer stands built known fresh one some =
    inr (
      past_none c _ known,
      inr (both_ways _ (stands.asks c ∙ fresh), inr ((λ no_member. no_member (free_member core sets h c stands built one)), inl (refl, clash core sets h c stands some))),
    )

pub ask_may : (core : Stand) (sets : Option (List (List ℕ))) (h : List Step) (c : ℕ) → Stands core sets h → IsBuilt core.schedule → c < length core.schedule.conditions → contains core.asked c ≡ false → HasWaitingMember core c → NoneClashes core c →
    MayAsk (recording core.schedule sets) h c
ask_may core sets h c stands built known fresh one clear = record {
  known = known;
  fresh = stands.asks c ∙ fresh;
  member = free_member core sets h c stands built one;
  apart = no_clash core sets h c stands clear;
}

-- ---- finishes

pub finish_not-running : (core : Stand) (sets : Option (List (List ℕ))) (h : List Step) (n : ℕ) → Stands core sets h → n < length core.schedule.systems → (contains core.begun n && not (contains core.over n)) ≡ false →
    IsFirstFault (recording core.schedule sets) h (Finish n) NotRunning
finish_not-running core sets h n stands known idle = inr (past_none n _ known, inl (refl, runs_is core sets h stands n ∙ idle))

pub finish_may : (core : Stand) (sets : Option (List (List ℕ))) (h : List Step) (n : ℕ) → Stands core sets h → (contains core.begun n && not (contains core.over n)) ≡ true → MayFinish (recording core.schedule sets) h n
finish_may core sets h n stands running = record { running = runs_is core sets h stands n ∙ running }

-- ---- sync points

pub sync_repeated : (core : Stand) (sets : Option (List (List ℕ))) (h : List Step) (k : ℕ) → Stands core sets h → k < core.schedule.syncs → k < core.done → IsFirstFault (recording core.schedule sets) h (Sync k) Repeated
sync_repeated core sets h k stands known low = inr (past_none k _ known, inl (refl, done_below core sets h stands k low))

pub sync_not-ready : (core : Stand) (sets : Option (List (List ℕ))) (h : List Step) (k : ℕ) → Stands core sets h → k < core.schedule.syncs → core.done < k → IsFirstFault (recording core.schedule sets) h (Sync k) NotReady
sync_not-ready core sets h k stands known high =
    inr (past_none k _ known, inr (both_ways _ (next_fresh core sets h stands k (omega arith)), inl (refl, (core.done, high, next_fresh core sets h stands core.done (omega arith)))))

-- no lower sync point is left where this one is the next
next_waits-not : (core : Stand) (sets : Option (List (List ℕ))) (h : List Step) (k : ℕ) → Stands core sets h → k ≤ core.done → (j : ℕ) → j < k → synced h j ≡ true
next_waits-not core sets h k stands low j below = done_below core sets h stands j (omega arith)

pub sync_level-open : (core : Stand) (sets : Option (List (List ℕ))) (h : List Step) (k : ℕ) → Stands core sets h → k < core.schedule.syncs → core.done ≤ k → k ≤ core.done → IsOpen core k →
    IsFirstFault (recording core.schedule sets) h (Sync k) LevelOpen
sync_level-open core sets h k stands known high low one =
    inr (
      past_none k _ known,
      inr (
        both_ways _ (next_fresh core sets h stands k high),
        inr ((λ waits. both_ways _ waits.2 (next_waits-not core sets h k stands low waits.0 waits.1)), inl (refl, (one.0, one.1, one.2, stands.ends one.0 ∙ one.3))),
      ),
    )

pub sync_may : (core : Stand) (sets : Option (List (List ℕ))) (h : List Step) (k : ℕ) → Stands core sets h → k < core.schedule.syncs → core.done ≤ k → k ≤ core.done → (IsOpen core k → ⊥) → MaySync (recording core.schedule sets) h k
sync_may core sets h k stands known high low none = record {
  known = known;
  fresh = next_fresh core sets h stands k high;
  lower = next_waits-not core sets h k stands low;
  level = λ n inside level. stands.ends n ∙ true_from_ne_false (contains core.over n) (λ o. none (n, inside, level, o));
}

-- where the next sync point may not come none may
pub no_sync : (core : Stand) (sets : Option (List (List ℕ))) (h : List Step) → Stands core sets h → (MaySync (recording core.schedule sets) h core.done → ⊥) → (k : ℕ) → MaySync (recording core.schedule sets) h k → ⊥
no_sync core sets h stands none k may = elim (cases_order k core.done) [
  | inl same ↦ none (subst (λ i. MaySync (recording core.schedule sets) h i) same may)
  | inr other ↦ elim other [
    | inl below ↦ both_ways _ may.fresh (done_below core sets h stands k below)
    | inr above ↦ both_ways _ (next_fresh core sets h stands core.done (omega arith)) (may.lower core.done above)
  ]
]
