-- With room for one, the lists, runs and stops of a coordinator are those of one thread.
use Rattle.std.proofs.Common.{ℕ, ◌<◌, ◌==◌, Bool, true, false, ◌≡◌, List, [], ◌∷◌, length, Option, Some, None, IsSome, is_some, option_and_then, refl, sym, ap, ap₂, ◌∙◌, subst, inl, inr, arith}
use Rattle.std.proofs.lemmas.Bool.{or_cases, eqb-true, eq-eqb, both_ways, false≢true, cond-true}
use Rattle.model.specs.declared.steps.Step.{Step}
use Rattle.model.specs.declared.steps.Step.TheVariants.{Cond, Start, Skip, Finish, Sync}
use Rattle.model.specs.declared.steps.Ready.TheVariants as ready
use Rattle.model.specs.Lists.{has, provided, first_some}
use Rattle.model.specs.state.State.{State}
use Rattle.model.specs.shown.Outcome.{BodyMeaning}
use Rattle.model.specs.steps.Schedule.{Schedule, recording}
use Rattle.model.specs.steps.Lawful.{runs, NoneRuns, May, IsLawful}
use Rattle.model.specs.steps.Widths.{IsChosen, just_started, IsNextSingle, IsSingle, running_after, IsNextWide, IsWide}
use Rattle.model.specs.runs.RunState.{RunState, can_start, started_system, after_start}
use Rattle.model.specs.runs.Meaning.{running_system, with_running_systems, interleaved, interleaved_step, serial, HasTrueSets}
use Rattle.model.specs.runs.Causes.{Cause, cause_of_opening, cause_of_start, cause_of_finish, cause_of_running, serial_cause_at, serial_cause, interleaved_cause_at, interleaved_cause}
use Rattle.model.specs.runs.Runs.{IsSingleRun}
use Rattle.model.specs.runs.WideRuns.{IsWideRun}
use Rattle.model.specs.runs.Laws.{WideOfOneIsSingle, WideRunsOfOneAreSingle, WideStopsOfOneAreSingle}
use Rattle.model.proofs.serial.Holding.{system_of-started}
use Rattle.model.proofs.serial.Interleaving.{idle_same}
use Rattle.model.proofs.faults.Causes.{LacksFor, lacks-serial, lacks-start}
use Rattle.model.proofs.progress.Single.{wide_lawful, alone, running_alone}
use Rattle.model.proofs.progress.Width.{running_is}
use Rattle.model.proofs.serial.Soundness.{serial_of}

-- ---- lists

-- the next step with room for one is the next one of one thread
next_single : (s : Schedule) (h : List Step) (step : Step) (o : Option ℕ) → running_after h ≡ alone o → ((n : ℕ) → has n (running_after h) ≡ runs h n) →
    May s h step → IsNextWide 1 s h step → IsNextSingle s h step o
next_single s h (Cond c answer) None e has_run may next = next.1
next_single s h (Start n) None e has_run may next = next.1
next_single s h (Skip n) None e has_run may next = next.1
next_single s h (Sync k) None e has_run may next = next.1
next_single s h (Finish m) None e has_run may next = absurd (both_ways (runs h m) (sym (has_run m) ∙ ap (has m) e) may.running)
next_single s h (Cond c answer) (Some n) e has_run may next = absurd (let l = subst (λ (ns : List ℕ). length ns < 1) e next.0 in omega arith)
next_single s h (Start m) (Some n) e has_run may next = absurd (let l = subst (λ (ns : List ℕ). length ns < 1) e next.0 in omega arith)
next_single s h (Skip m) (Some n) e has_run may next = absurd (let l = subst (λ (ns : List ℕ). length ns < 1) e next.0 in omega arith)
next_single s h (Sync k) (Some n) e has_run may next = absurd (let l = subst (λ (ns : List ℕ). length ns < 1) e next.0 in omega arith)
next_single s h (Finish m) (Some n) e has_run may next = elim (or_cases (n == m) false (sym (ap (has m) e) ∙ (has_run m ∙ may.running))) [
  | inl same ↦ ap Finish (sym (eqb-true n m same))
  | inr none ↦ absurd (false≢true none)
]

pub wide_of_one_is_single : WideOfOneIsSingle
wide_of_one_is_single s [] wide = tt
wide_of_one_is_single s (step ∷ h) wide =
    let single : IsSingle s h = wide_of_one_is_single s h wide.2 in
    (next_single s h step (just_started h) (running_alone s h single) (running_is s h (wide_lawful 1 s h wide.2)).same wide.0 wide.1, single)

-- ---- runs

single_run : (s : Schedule) (bodies : List BodyMeaning) (w : State) (h : List Step) (w' : State) → IsWideRun 1 s bodies w h w' → IsSingleRun s bodies w h w'
single_run s bodies w h w' r = let lawful = wide_lawful 1 s h r.wide in record {
  single = wide_of_one_is_single s h r.wide;
  lawful = lawful;
  complete = r.complete;
  answers = r.answers;
  sets = r.sets;
  end = r.end.run;
  meaning = serial_of s bodies w h r.end lawful r.complete r.sets r.meaning;
  leaves = r.leaves;
}

pub wide_runs_of_one_are_single : WideRunsOfOneAreSingle
wide_runs_of_one_are_single s bodies w [] w' ran = ran
wide_runs_of_one_are_single s bodies w (r ∷ rs) w' ran =
    (ran.0, single_run (recording s r.sets) bodies w r.steps ran.0 ran.1, wide_runs_of_one_are_single s bodies ran.0 rs w' ran.2)

-- ---- stops

-- nothing after a cause
first_some-none : (o : Option Cause) → first_some o None ≡ o
first_some-none None = refl
first_some-none (Some c) = refl

-- the first of three
first_some-three : (o p q : Option Cause) → first_some (first_some o p) q ≡ first_some o (first_some p q)
first_some-three None p q = refl
first_some-three (Some c) p q = refl

-- in a list of one thread in which nothing was just started, nothing runs
pub none_runs : (s : Schedule) (h : List Step) → IsSingle s h → IsLawful s h → just_started h ≡ None → NoneRuns h
none_runs s h single lawful e n = sym ((running_is s h lawful).same n) ∙ ap (has n) (running_alone s h single ∙ ap alone e)

-- the cause that the finish of a system meets that was just started, on what one thread makes of the list before
abbrev finish_cause : Schedule → List BodyMeaning → ℕ → Option RunState → Option Cause
finish_cause s bodies n None = None
finish_cause s bodies n (Some run) = cause_of_finish s bodies (started_system s n run) (after_start s n run)

-- the cause that is still to come: of the system that was just started
abbrev late_cause : Schedule → List BodyMeaning → State → List Step → Option Cause
late_cause s bodies w (Start n ∷ h) = finish_cause s bodies n (serial s bodies w h)
late_cause s bodies w _ = None

-- the causes of a step on what one thread makes of the list before are the same
start_causes : (s : Schedule) (bodies : List BodyMeaning) (n : ℕ) (o : Option RunState) →
    first_some (interleaved_cause_at s bodies (Start n) (with_running_systems [] o)) (finish_cause s bodies n o) ≡ serial_cause_at s bodies (Start n) o
start_causes s bodies n None = refl
start_causes s bodies n (Some run) = refl

cond_causes : (s : Schedule) (bodies : List BodyMeaning) (c : ℕ) (answer : Bool) (o : Option RunState) →
    interleaved_cause_at s bodies (Cond c answer) (with_running_systems [] o) ≡ serial_cause_at s bodies (Cond c answer) o
cond_causes s bodies c answer None = refl
cond_causes s bodies c answer (Some run) = refl

skip_causes : (s : Schedule) (bodies : List BodyMeaning) (n : ℕ) (o : Option RunState) →
    interleaved_cause_at s bodies (Skip n) (with_running_systems [] o) ≡ serial_cause_at s bodies (Skip n) o
skip_causes s bodies n None = refl
skip_causes s bodies n (Some run) = refl

sync_causes : (s : Schedule) (bodies : List BodyMeaning) (k : ℕ) (o : Option RunState) →
    interleaved_cause_at s bodies (Sync k) (with_running_systems [] o) ≡ serial_cause_at s bodies (Sync k) o
sync_causes s bodies k None = refl
sync_causes s bodies k (Some run) = refl

-- a finish meets no cause on one thread
finish_none : (s : Schedule) (bodies : List BodyMeaning) (n : ℕ) (o : Option RunState) → serial_cause_at s bodies (Finish n) o ≡ None
finish_none s bodies n None = refl
finish_none s bodies n (Some run) = refl

-- where a start has its tick, its finish meets the cause that was still to come
finish_there : (s : Schedule) (bodies : List BodyMeaning) (n : ℕ) (run : RunState) →
    cause_of_running s bodies (running_system n (started_system s n run ∷ [])) (after_start s n run) ≡ finish_cause s bodies n (Some run)
finish_there s bodies n run = ap (λ o. cause_of_running s bodies o (after_start s n run))
    (cond-true ((started_system s n run).system == n) (Some (started_system s n run)) None (eq-eqb _ n (system_of-started s n run)))

-- the finish of what was just started meets the cause that was still to come, where the list so far meets none
finish_late : (s : Schedule) (bodies : List BodyMeaning) (n : ℕ) (run : RunState) → cause_of_start run ≡ None →
    interleaved_cause_at s bodies (Finish n) (interleaved_step s bodies (Start n) (record { run = run; running_systems = [] })) ≡ finish_cause s bodies n (Some run)
finish_late s bodies n run none = go (can_start run) (lacks-start run (after_start s n run))
  where
    go : (b : Bool) → LacksFor (provided b (after_start s n run)) (cause_of_start run) →
        interleaved_cause_at s bodies (Finish n) (provided b (record { run = after_start s n run; running_systems = started_system s n run ∷ [] })) ≡ finish_cause s bodies n (Some run)
    go true lacks = finish_there s bodies n run
    go false lacks = absurd (let some : IsSome (cause_of_start run) = lacks.0 refl in false≢true (ap is_some (sym none) ∙ some))

-- the causes of a list whose latest step is the finish of what was just started
finish_causes : (s : Schedule) (bodies : List BodyMeaning) (n : ℕ) (before : Option Cause) (o : Option RunState) → LacksFor o before →
    first_some (first_some before (interleaved_cause_at s bodies (Start n) (with_running_systems [] o)))
    (interleaved_cause_at s bodies (Finish n) (option_and_then (interleaved_step s bodies (Start n)) (with_running_systems [] o)))
    ≡ first_some before (serial_cause_at s bodies (Start n) o)
finish_causes s bodies n (Some c) o lacks = refl
finish_causes s bodies n None None lacks = absurd (false≢true (lacks.0 refl))
finish_causes s bodies n None (Some run) lacks = go (cause_of_start run) refl
  where
    go : (cause : Option Cause) → cause_of_start run ≡ cause →
        first_some cause (interleaved_cause_at s bodies (Finish n) (interleaved_step s bodies (Start n) (record { run = run; running_systems = [] })))
        ≡ first_some cause (cause_of_finish s bodies (started_system s n run) (after_start s n run))
    go (Some c) e = refl
    go None e = finish_late s bodies n run e

-- where nothing was just started, nothing is still to come
late_none : (s : Schedule) (bodies : List BodyMeaning) (w : State) (h : List Step) → just_started h ≡ None → late_cause s bodies w h ≡ None
late_none s bodies w [] e = refl
late_none s bodies w (Start n ∷ h) e = absurd (let bad : Some n ≡ None = e in cc)
late_none s bodies w (Cond c answer ∷ h) e = refl
late_none s bodies w (Skip n ∷ h) e = refl
late_none s bodies w (Finish n ∷ h) e = refl
late_none s bodies w (Sync k ∷ h) e = refl

-- only a finish comes after a start
quiet : (s : Schedule) (h : List Step) (step : Step) (o : Option ℕ) → ((n : ℕ) → step ≡ Finish n → ⊥) → IsNextSingle s h step o → o ≡ None
quiet s h step None other next = refl
quiet s h step (Some n) other next = absurd (other n next)

-- a finish isn't what is ready
chosen_other : (s : Schedule) (h : List Step) (n : ℕ) → IsChosen s h (Finish n) → ⊥
chosen_other s h n (ready.Ask c, answer, is, e) = cc
chosen_other s h n (ready.Skip m, answer, is, e) = cc
chosen_other s h n (ready.Start m, answer, is, e) = cc
chosen_other s h n (ready.Sync k, answer, is, e) = cc

-- where nothing was just started, causes are the same
same_so_far : (s : Schedule) (bodies : List BodyMeaning) (w : State) (h : List Step) → just_started h ≡ None →
    first_some (interleaved_cause s bodies w h) (late_cause s bodies w h) ≡ serial_cause s bodies w h → interleaved_cause s bodies w h ≡ serial_cause s bodies w h
same_so_far s bodies w h e same = sym (first_some-none (interleaved_cause s bodies w h))
    ∙ ap (first_some (interleaved_cause s bodies w h)) (sym (late_none s bodies w h e)) ∙ same

-- one more step that is no start, after a list in which nothing was just started
same_step : (s : Schedule) (bodies : List BodyMeaning) (w : State) (h : List Step) (step : Step) → IsSingle s h → IsLawful s h → HasTrueSets s bodies w h → just_started h ≡ None →
    ((o : Option RunState) → interleaved_cause_at s bodies step (with_running_systems [] o) ≡ serial_cause_at s bodies step o) →
    first_some (interleaved_cause s bodies w h) (late_cause s bodies w h) ≡ serial_cause s bodies w h →
    first_some (interleaved_cause s bodies w (step ∷ h)) None ≡ serial_cause s bodies w (step ∷ h)
same_step s bodies w h step single lawful sets none step_same before =
    first_some-none (interleaved_cause s bodies w (step ∷ h))
    ∙ ap₂ first_some (same_so_far s bodies w h none before)
    (ap (interleaved_cause_at s bodies step) (idle_same s bodies w h lawful sets (none_runs s h single lawful none)) ∙ step_same (serial s bodies w h))

-- one more start
same_start : (s : Schedule) (bodies : List BodyMeaning) (w : State) (h : List Step) (n : ℕ) → IsSingle s h → IsLawful s h → HasTrueSets s bodies w h → just_started h ≡ None →
    first_some (interleaved_cause s bodies w h) (late_cause s bodies w h) ≡ serial_cause s bodies w h →
    first_some (interleaved_cause s bodies w (Start n ∷ h)) (late_cause s bodies w (Start n ∷ h)) ≡ serial_cause s bodies w (Start n ∷ h)
same_start s bodies w h n single lawful sets none before =
    first_some-three (interleaved_cause s bodies w h) (interleaved_cause_at s bodies (Start n) (interleaved s bodies w h)) (late_cause s bodies w (Start n ∷ h))
    ∙ ap₂ first_some (same_so_far s bodies w h none before)
    (ap (λ o. first_some (interleaved_cause_at s bodies (Start n) o) (finish_cause s bodies n (serial s bodies w h)))
    (idle_same s bodies w h lawful sets (none_runs s h single lawful none))
    ∙ start_causes s bodies n (serial s bodies w h))

-- the finish of what was just started
same_finish : (s : Schedule) (bodies : List BodyMeaning) (w : State) (h : List Step) (n : ℕ) → IsSingle s h → IsLawful s h → HasTrueSets s bodies w h → just_started h ≡ None →
    first_some (interleaved_cause s bodies w h) (late_cause s bodies w h) ≡ serial_cause s bodies w h →
    first_some (interleaved_cause s bodies w (Finish n ∷ Start n ∷ h)) None ≡ serial_cause s bodies w (Finish n ∷ Start n ∷ h)
same_finish s bodies w h n single lawful sets none before =
    first_some-none (interleaved_cause s bodies w (Finish n ∷ Start n ∷ h))
    ∙ ap (λ o. first_some (first_some (interleaved_cause s bodies w h) (interleaved_cause_at s bodies (Start n) o))
    (interleaved_cause_at s bodies (Finish n) (option_and_then (interleaved_step s bodies (Start n)) o)))
    (idle_same s bodies w h lawful sets (none_runs s h single lawful none))
    ∙ ap (λ cause. first_some (first_some cause (interleaved_cause_at s bodies (Start n) (with_running_systems [] (serial s bodies w h))))
    (interleaved_cause_at s bodies (Finish n) (option_and_then (interleaved_step s bodies (Start n)) (with_running_systems [] (serial s bodies w h)))))
    (same_so_far s bodies w h none before)
    ∙ finish_causes s bodies n (serial_cause s bodies w h) (serial s bodies w h) (lacks-serial s bodies w h)
    ∙ sym (first_some-none (serial_cause s bodies w (Start n ∷ h)))
    ∙ ap (first_some (serial_cause s bodies w (Start n ∷ h))) (sym (finish_none s bodies n (serial s bodies w (Start n ∷ h))))

-- interleaved and then late, the causes of a list of one thread are those of one thread
causes_same : (s : Schedule) (bodies : List BodyMeaning) (w : State) (h : List Step) → IsSingle s h → IsLawful s h → HasTrueSets s bodies w h →
    first_some (interleaved_cause s bodies w h) (late_cause s bodies w h) ≡ serial_cause s bodies w h
causes_same s bodies w [] single lawful sets = first_some-none (cause_of_opening s w)
causes_same s bodies w (Cond c answer ∷ h) single lawful sets =
    same_step s bodies w h (Cond c answer) single.1 lawful.1 sets (quiet s h (Cond c answer) (just_started h) (λ n e. cc) single.0) (cond_causes s bodies c answer)
    (causes_same s bodies w h single.1 lawful.1 sets)
causes_same s bodies w (Skip n ∷ h) single lawful sets =
    same_step s bodies w h (Skip n) single.1 lawful.1 sets (quiet s h (Skip n) (just_started h) (λ m e. cc) single.0) (skip_causes s bodies n)
    (causes_same s bodies w h single.1 lawful.1 sets)
causes_same s bodies w (Sync k ∷ h) single lawful sets =
    same_step s bodies w h (Sync k) single.1 lawful.1 sets.1 (quiet s h (Sync k) (just_started h) (λ n e. cc) single.0) (sync_causes s bodies k)
    (causes_same s bodies w h single.1 lawful.1 sets.1)
causes_same s bodies w (Start n ∷ h) single lawful sets =
    same_start s bodies w h n single.1 lawful.1 sets (quiet s h (Start n) (just_started h) (λ m e. cc) single.0) (causes_same s bodies w h single.1 lawful.1 sets)
causes_same s bodies w (Finish m ∷ Start n ∷ h) single lawful sets = let same : n ≡ m = cc (single.0) in
    subst (λ k. first_some (interleaved_cause s bodies w (Finish k ∷ Start n ∷ h)) None ≡ serial_cause s bodies w (Finish k ∷ Start n ∷ h)) same
    (same_finish s bodies w h n single.1.1 lawful.1.1 sets (quiet s h (Start n) (just_started h) (λ k e. cc) single.1.0) (causes_same s bodies w h single.1.1 lawful.1.1 sets))
causes_same s bodies w (Finish m ∷ []) single lawful sets = absurd (chosen_other s [] m single.0)
causes_same s bodies w (Finish m ∷ Cond c answer ∷ h) single lawful sets = absurd (chosen_other s (Cond c answer ∷ h) m single.0)
causes_same s bodies w (Finish m ∷ Skip n ∷ h) single lawful sets = absurd (chosen_other s (Skip n ∷ h) m single.0)
causes_same s bodies w (Finish m ∷ Finish n ∷ h) single lawful sets = absurd (chosen_other s (Finish n ∷ h) m single.0)
causes_same s bodies w (Finish m ∷ Sync k ∷ h) single lawful sets = absurd (chosen_other s (Sync k ∷ h) m single.0)

-- a front that stops interleaved stops on one thread, for the same cause
front_stops : (s : Schedule) (bodies : List BodyMeaning) (w : State) (h : List Step) (cause : Cause) → IsWide 1 s h → HasTrueSets s bodies w h →
    interleaved_cause s bodies w h ≡ Some cause → serial_cause s bodies w h ≡ Some cause
front_stops s bodies w h cause wide sets stops =
    sym (causes_same s bodies w h (wide_of_one_is_single s h wide) (wide_lawful 1 s h wide) sets) ∙ ap (λ o. first_some o (late_cause s bodies w h)) stops

-- so do the runs of one thread
pub wide_stops_of_one_are_single : WideStopsOfOneAreSingle
wide_stops_of_one_are_single s bodies times w cause stopped = let front = stopped.stopped.front in record {
  complete_runs = stopped.complete_runs;
  fewer = stopped.fewer;
  middle = stopped.middle;
  ran = wide_runs_of_one_are_single s bodies w stopped.complete_runs stopped.middle stopped.ran;
  front = front;
  single = wide_of_one_is_single (recording s front.sets) front.steps stopped.stopped.wide;
  answers = stopped.stopped.answers;
  sets = stopped.stopped.sets;
  stops = front_stops (recording s front.sets) bodies stopped.middle front.steps cause stopped.stopped.wide stopped.stopped.sets stopped.stopped.stops;
}
