-- A step asks of the kind sets that a run records only those recorded last. So what is said by the lists so far is said by all lists, and what a
-- core stands for goes on from list to list.
use Rattle.std.proofs.Common.{ℕ, suc, ◌-◌, ◌<◌, ◌≤◌, ◌≡◌, inl, inr, List, [], ◌∷◌, ◌++◌, length, get_or, take, Option, Some, None, MatchOption, refl, sym, ap, ◌∙◌, subst, arith}
use Rattle.std.proofs.Math.Seq.{take-suc}
use Rattle.std.proofs.lemmas.List.{get_or-take, length-take}
use Rattle.model.specs.declared.steps.Step.{Step}
use Rattle.model.specs.declared.steps.Step.TheVariants.{Cond, Start, Skip, Finish, Sync}
use Rattle.model.specs.declared.steps.StepFault.{StepFault}
use Rattle.model.specs.declared.steps.StepFault.TheVariants.{Unknown, Repeated, NotReady, ConditionOpen, ConditionFalse, ConditionTrue, Conflict, NotRunning, LevelOpen}
use Rattle.model.specs.access.Access.{Params}
use Rattle.model.specs.access.Meeting.{Meet}
use Rattle.model.specs.steps.Schedule.{Schedule, recording, params_of, access_of}
use Rattle.model.specs.steps.Lawful.{syncs_in, sets_at, HasFreeMember, MeetsRunning, IsLawful}
use Rattle.model.specs.steps.Faults.{HasFault, IsFirst, IsFirstFault, faults_of}
use Rattle.model.proofs.order.Extending.{free-recording, may-recording}
use Rattle.executor_core.specs.Stands.{AreMeetings, Stand, Stands, AreListed, IsPlainStep}
use Rattle.trace_checker.specs.Verdicts.{sets_so_far}

-- ---- a fault of a step, by other records

-- a running system that an access meets
meets-by : (s : Schedule) (sets : Option (List (List ℕ))) (h : List Step) (access : Params) → sets_at s h ≡ sets_at (recording s sets) h →
    MeetsRunning s h access → MeetsRunning (recording s sets) h access
meets-by s sets h access e meets = (meets.0, meets.1, subst (λ there. Meet there (params_of s meets.0) access) e meets.2)

-- a member of a condition that is free
member-by : (s : Schedule) (sets : Option (List (List ℕ))) (h : List Step) (c : ℕ) → HasFreeMember s h c → HasFreeMember (recording s sets) h c
member-by s sets h c member = (member.0, member.1, free-recording s sets h member.0 member.2)

-- a fault that holds of a step, by the same sets recorded last
fault-by : (s : Schedule) (sets : Option (List (List ℕ))) (h : List Step) (step : Step) (fault : StepFault) → sets_at s h ≡ sets_at (recording s sets) h →
    HasFault s h step fault → HasFault (recording s sets) h step fault
fault-by s sets h (Cond c answer) Unknown e has = has
fault-by s sets h (Cond c answer) Repeated e has = has
fault-by s sets h (Cond c answer) NotReady e has = λ member. has (member-by (recording s sets) s.sets h c member)
fault-by s sets h (Cond c answer) ConditionOpen e has = absurd has
fault-by s sets h (Cond c answer) ConditionFalse e has = absurd has
fault-by s sets h (Cond c answer) ConditionTrue e has = absurd has
fault-by s sets h (Cond c answer) Conflict e has = meets-by s sets h (access_of s c) e has
fault-by s sets h (Cond c answer) NotRunning e has = absurd has
fault-by s sets h (Cond c answer) LevelOpen e has = absurd has
fault-by s sets h (Start n) Unknown e has = has
fault-by s sets h (Start n) Repeated e has = has
fault-by s sets h (Start n) NotReady e has = λ free. has (free-recording (recording s sets) s.sets h n free)
fault-by s sets h (Start n) ConditionOpen e has = has
fault-by s sets h (Start n) ConditionFalse e has = has
fault-by s sets h (Start n) ConditionTrue e has = absurd has
fault-by s sets h (Start n) Conflict e has = meets-by s sets h (params_of s n) e has
fault-by s sets h (Start n) NotRunning e has = absurd has
fault-by s sets h (Start n) LevelOpen e has = absurd has
fault-by s sets h (Skip n) Unknown e has = has
fault-by s sets h (Skip n) Repeated e has = has
fault-by s sets h (Skip n) NotReady e has = λ free. has (free-recording (recording s sets) s.sets h n free)
fault-by s sets h (Skip n) ConditionOpen e has = has
fault-by s sets h (Skip n) ConditionFalse e has = absurd has
fault-by s sets h (Skip n) ConditionTrue e has = has
fault-by s sets h (Skip n) Conflict e has = absurd has
fault-by s sets h (Skip n) NotRunning e has = absurd has
fault-by s sets h (Skip n) LevelOpen e has = absurd has
fault-by s sets h (Finish n) Unknown e has = has
fault-by s sets h (Finish n) Repeated e has = absurd has
fault-by s sets h (Finish n) NotReady e has = absurd has
fault-by s sets h (Finish n) ConditionOpen e has = absurd has
fault-by s sets h (Finish n) ConditionFalse e has = absurd has
fault-by s sets h (Finish n) ConditionTrue e has = absurd has
fault-by s sets h (Finish n) Conflict e has = absurd has
fault-by s sets h (Finish n) NotRunning e has = has
fault-by s sets h (Finish n) LevelOpen e has = absurd has
fault-by s sets h (Sync k) Unknown e has = has
fault-by s sets h (Sync k) Repeated e has = has
fault-by s sets h (Sync k) NotReady e has = has
fault-by s sets h (Sync k) ConditionOpen e has = absurd has
fault-by s sets h (Sync k) ConditionFalse e has = absurd has
fault-by s sets h (Sync k) ConditionTrue e has = absurd has
fault-by s sets h (Sync k) Conflict e has = absurd has
fault-by s sets h (Sync k) NotRunning e has = absurd has
fault-by s sets h (Sync k) LevelOpen e has = has

-- the first fault that holds
first-by : (P Q : StepFault → Type 0) → ((fault : StepFault) → P fault → Q fault) → ((fault : StepFault) → Q fault → P fault) → (fs : List StepFault) (fault : StepFault) →
    IsFirst P fs fault → IsFirst Q fs fault
first-by P Q to from [] fault is = is
first-by P Q to from (f ∷ fs) fault (inl here) = inl (here.0, to f here.1)
first-by P Q to from (f ∷ fs) fault (inr later) = inr (λ holds. later.0 (from f holds), first-by P Q to from fs fault later.1)

-- ---- the lists so far, and all

-- what was recorded last in a history that has no more sync points
so_far-at : (s : Schedule) (sets : Option (List (List ℕ))) (h front : List Step) → syncs_in front ≤ syncs_in h →
    sets_at (recording s (sets_so_far sets h)) front ≡ sets_at (recording s sets) front
so_far-at s None h front within = refl
so_far-at s (Some lists) h front within = ap Some (get_or-take (suc (syncs_in h)) lists (syncs_in front) [] (omega (arith, within)))

-- a shorter history has no more sync points
syncs-before : (step : Step) (h : List Step) (n : ℕ) → syncs_in (step ∷ h) ≤ n → syncs_in h ≤ n
syncs-before (Cond c answer) h n within = within
syncs-before (Start m) h n within = within
syncs-before (Skip m) h n within = within
syncs-before (Finish m) h n within = within
syncs-before (Sync k) h n within = omega (arith, within)

lawful-front : (s : Schedule) (sets : Option (List (List ℕ))) (h front : List Step) → syncs_in front ≤ syncs_in h → IsLawful (recording s (sets_so_far sets h)) front → IsLawful (recording s sets) front
lawful-front s sets h [] within lawful = tt
lawful-front s sets h (step ∷ front) within lawful =
    let shorter = syncs-before step front (syncs_in h) within in (
      may-recording (recording s (sets_so_far sets h)) sets front step (so_far-at s sets h front shorter) lawful.0,
      lawful-front s sets h front shorter lawful.1,
    )

-- a history that is lawful by the lists so far is so by all
pub lawful_by_all : (s : Schedule) (sets : Option (List (List ℕ))) (h : List Step) → IsLawful (recording s (sets_so_far sets h)) h → IsLawful (recording s sets) h
lawful_by_all s sets h lawful = lawful-front s sets h h (omega arith) lawful

-- so is the first fault of a step
pub first_by_all : (s : Schedule) (sets : Option (List (List ℕ))) (h : List Step) (step : Step) (fault : StepFault) → IsFirstFault (recording s (sets_so_far sets h)) h step fault →
    IsFirstFault (recording s sets) h step fault
first_by_all s sets h step fault first =
    let same = so_far-at s sets h h (omega arith) in
    first-by (HasFault (recording s (sets_so_far sets h)) h step) (HasFault (recording s sets) h step)
    (λ f has. fault-by (recording s (sets_so_far sets h)) sets h step f same has)
    (λ f has. fault-by (recording s sets) (sets_so_far sets h) h step f (sym same) has) (faults_of step) fault first

-- ---- places

-- a front has no more sync points
syncs-front : (later front : List Step) → syncs_in front ≤ syncs_in (later ++ front)
syncs-front [] front = omega arith
syncs-front (step ∷ later) front = syncs-before-front step (later ++ front) (syncs_in front) (syncs-front later front)
  where
    syncs-before-front : (step : Step) (h : List Step) (n : ℕ) → n ≤ syncs_in h → n ≤ syncs_in (step ∷ h)
    syncs-before-front (Cond c answer) h n within = within
    syncs-before-front (Start m) h n within = within
    syncs-before-front (Skip m) h n within = within
    syncs-before-front (Finish m) h n within = within
    syncs-before-front (Sync k) h n within = omega (arith, within)

-- there is a list for the place after each front
pub listed_at : (sets : Option (List (List ℕ))) (h later front : List Step) → AreListed sets h → h ≡ later ++ front → MatchOption sets (Unit {0}) (λ lists. syncs_in front < length lists)
listed_at None h later front listed e = tt
listed_at (Some lists) h later front listed e =
    let within = subst (λ x. syncs_in front ≤ syncs_in x) (sym e) (syncs-front later front) in
    omega (arith, within, listed)

-- ---- what a core stands for

-- after a step at which no kind sets are recorded
pub stands_plain : (core : Stand) (sets : Option (List (List ℕ))) (h : List Step) (step : Step) → IsPlainStep sets step → (IsPlainStep (sets_so_far sets h) step → Stands core (sets_so_far sets h) (step ∷ h)) →
    Stands core (sets_so_far sets (step ∷ h)) (step ∷ h)
stands_plain core sets h (Cond c answer) plain stands = stands tt
stands_plain core sets h (Start n) plain stands = stands tt
stands_plain core sets h (Skip n) plain stands = stands tt
stands_plain core sets h (Finish n) plain stands = stands tt
stands_plain core None h (Sync k) plain stands = stands refl
stands_plain core (Some lists) h (Sync k) plain stands = absurd (let clash = plain in cc)

-- a step that is no sync point
pub plain_step : (sets : Option (List (List ℕ))) (step : Step) → ((k : ℕ) → step ≡ Sync k → ⊥) → IsPlainStep sets step
plain_step sets (Cond c answer) none = tt
plain_step sets (Start n) none = tt
plain_step sets (Skip n) none = tt
plain_step sets (Finish n) none = tt
plain_step sets (Sync k) none = absurd (none k refl)

-- after a sync point at which they are
pub stands_listed : (core : Stand) (lists : List (List ℕ)) (h : List Step) (k place : ℕ) → place ≡ syncs_in (Sync k ∷ h) → place < length lists →
    Stands core (Some (take (suc (syncs_in h)) lists ++ get_or lists place [] ∷ [])) (Sync k ∷ h) → Stands core (sets_so_far (Some lists) (Sync k ∷ h)) (Sync k ∷ h)
stands_listed core lists h k place e within stands =
    let here = subst (λ n. Stands core (Some (take (suc (syncs_in h)) lists ++ get_or lists n [] ∷ [])) (Sync k ∷ h)) e stands in
    subst (λ (sets : Option (List (List ℕ))). Stands core sets (Sync k ∷ h)) (ap Some (sym (take-suc lists (suc (syncs_in h)) [] (subst (λ n. n < length lists) e within)))) here

-- and after one at which they are those before it
pub stands_same : (core : Stand) (lists : List (List ℕ)) (h : List Step) (k place : ℕ) → place ≡ syncs_in (Sync k ∷ h) → place < length lists → get_or lists place [] ≡ get_or lists (place - 1) [] →
    Stands core (Some (take (suc (syncs_in h)) lists ++ get_or (take (suc (syncs_in h)) lists) (syncs_in h) [] ∷ [])) (Sync k ∷ h) → Stands core (sets_so_far (Some lists) (Sync k ∷ h)) (Sync k ∷ h)
stands_same core lists h k place e within same stands =
    let before : place - 1 ≡ syncs_in h = omega (arith, e) in
    let taken : get_or (take (suc (syncs_in h)) lists) (syncs_in h) [] ≡ get_or lists (syncs_in h) [] = get_or-take (suc (syncs_in h)) lists (syncs_in h) [] (omega arith) in
    let last : get_or (take (suc (syncs_in h)) lists) (syncs_in h) [] ≡ get_or lists place [] = taken ∙ (ap (λ n. get_or lists n []) (sym before) ∙ sym same) in
    stands_listed core lists h k place e within (subst (λ l. Stands core (Some (take (suc (syncs_in h)) lists ++ l ∷ [])) (Sync k ∷ h)) last stands)

-- ---- what a core knows

-- it knows who meets whom in the kind sets that were recorded last
pub knows_last : (core : Stand) (sets : Option (List (List ℕ))) (h : List Step) (place : ℕ) → place ≡ syncs_in h → Stands core (sets_so_far sets h) h →
    MatchOption sets (Unit {0}) (λ lists. (place < length lists) × AreMeetings core (get_or lists place []))
knows_last core None h place e stands = tt
knows_last core (Some lists) h place e stands =
    let n = syncs_in h in
    let few : length (take (suc n) lists) ≡ suc n = stands.listed in
    let taken : get_or (take (suc n) lists) n [] ≡ get_or lists place [] = get_or-take (suc n) lists n [] (omega arith) ∙ ap (λ k. get_or lists k []) (sym e) in
    let known : AreMeetings core (get_or (take (suc n) lists) n []) = record { meets = stands.meets; clashes = stands.clashes; due = λ there e. (stands.due there e).1 } in
    (omega (arith, e, few, length-take (suc n) lists), subst (AreMeetings core) taken known)
