-- The single-threaded list is one: one thing is ready, one answer is true, and nothing comes after a complete list.
use Rattle.std.proofs.Common.{ℕ, ◌<◌, Bool, true, ◌≡◌, ◌⊎◌, inl, inr, List, [], ◌∷◌, ◌++◌, length, Option, Some, None, IsSome, is_some, option_and_then, refl, sym, ap, ap₂, ◌∙◌, subst, arith}
use Rattle.std.proofs.Math.Seq.{append_snoc}
use Rattle.std.proofs.lemmas.List.{append-nil}
use Rattle.std.proofs.lemmas.Bool.{both_ways, cases_order, false≢true}
use Rattle.model.specs.declared.steps.Step.{Step}
use Rattle.model.specs.declared.steps.Step.TheVariants.{Cond, Start, Skip, Finish, Sync}
use Rattle.model.specs.declared.steps.Ready.{Ready}
use Rattle.model.specs.declared.steps.Ready.TheVariants as ready
use Rattle.model.specs.Lists.{first_some}
use Rattle.model.specs.state.State.{State}
use Rattle.model.specs.shown.Outcome.{BodyMeaning}
use Rattle.model.specs.steps.Schedule.{Schedule, Recorded, recording}
use Rattle.model.specs.steps.Lawful.{IsFree, May, MaySync, IsLawful, IsComplete, was_asked}
use Rattle.model.specs.steps.Ready.{IsAskable, Offers, IsReadySync, IsReadyAmong, step_of}
use Rattle.model.specs.steps.Widths.{just_started, IsNextSingle, IsSingle}
use Rattle.model.specs.runs.RunState.{RunState, opening}
use Rattle.model.specs.runs.Meaning.{Interleaved, interleaved, interleaved_step, with_running_systems, serial, serial_step, IsTrueAnswer, HasTrueAnswers, HasTrueSets}
use Rattle.model.specs.runs.Causes.{Cause, cause_of_opening, serial_cause_of, serial_cause_at, serial_cause}
use Rattle.model.specs.runs.Runs.{IsSingleRun, AreSingleRuns, IsStopped}
use Rattle.model.specs.runs.Laws.{SingleRunIsOne, SingleRunsAreOne, DefinedRunsGoThrough, StopsAreOne}
use Rattle.model.proofs.order.Histories.{may_at, ended_begun, idle_at_end, answered_asked, one_answer}
use Rattle.model.proofs.faults.Causes.{LacksFor, then-parts, lacks-serial, lacks-serial_step}
use Rattle.model.proofs.progress.Single.{single_is_wide, wide_lawful}
use Rattle.model.proofs.serial.Soundness.{sound_run}
use Rattle.model.proofs.serial.Interleaving.{idle_same}
use Rattle.model.proofs.serial.There.{sets_before, sets_front}
use Rattle.model.proofs.serial.Recording.{answers-recording, cause-recording}
use Rattle.model.proofs.progress.WideOfOne.{none_runs}
use Rattle.model.proofs.progress.Unrecorded.{single-recording, none_told, plain_run}

-- ---- one thing is ready

-- two least numbers of one kind are one
one_least : (P : ℕ → Type 0) (c d : ℕ) → P c → ((j : ℕ) → j < c → P j → ⊥) → P d → ((j : ℕ) → j < d → P j → ⊥) → c ≡ d
one_least P c d p least q lowest = elim (cases_order c d) [
  | inl same ↦ same
  | inr differ ↦ elim differ [
    | inl below ↦ absurd (lowest c below p)
    | inr above ↦ absurd (least d above q)
  ]
]

-- a system with a condition to ask isn't skipped
ask_not-skip : (s : Schedule) (h : List Step) (n c m : ℕ) → Offers s h n (ready.Ask c) → Offers s h n (ready.Skip m) → ⊥
ask_not-skip s h n c m ask skip = both_ways (was_asked h c) ask.1.0.1 (skip.1.1.asked c ask.1.0.0)

-- nor is it started
ask_not-start : (s : Schedule) (h : List Step) (n c m : ℕ) → Offers s h n (ready.Ask c) → Offers s h n (ready.Start m) → ⊥
ask_not-start s h n c m ask start = both_ways (was_asked h c) ask.1.0.1 (answered_asked h c true (start.1.1.answers c ask.1.0.0))

-- what is skipped isn't started
skip_not-start : (s : Schedule) (h : List Step) (n m k : ℕ) → IsLawful s h → Offers s h n (ready.Skip m) → Offers s h n (ready.Start k) → ⊥
skip_not-start s h n m k lawful skip start = let no = skip.1.1.refused in one_answer s h no.0 lawful (start.1.1.answers no.0 no.1) no.2

-- a system offers one thing
one_offer : (s : Schedule) (h : List Step) (n : ℕ) (x y : Ready) → IsLawful s h → Offers s h n x → Offers s h n y → x ≡ y
one_offer s h n (ready.Ask c) (ready.Ask d) lawful p q = ap ready.Ask (one_least (IsAskable s h n) c d p.1.0 p.1.1 q.1.0 q.1.1)
one_offer s h n (ready.Ask c) (ready.Skip m) lawful p q = absurd (ask_not-skip s h n c m p q)
one_offer s h n (ready.Ask c) (ready.Start m) lawful p q = absurd (ask_not-start s h n c m p q)
one_offer s h n (ready.Skip m) (ready.Ask c) lawful p q = absurd (ask_not-skip s h n c m q p)
one_offer s h n (ready.Skip m) (ready.Skip k) lawful p q = ap ready.Skip (p.1.0 ∙ sym q.1.0)
one_offer s h n (ready.Skip m) (ready.Start k) lawful p q = absurd (skip_not-start s h n m k lawful p q)
one_offer s h n (ready.Start m) (ready.Ask c) lawful p q = absurd (ask_not-start s h n c m q p)
one_offer s h n (ready.Start m) (ready.Skip k) lawful p q = absurd (skip_not-start s h n k m lawful q p)
one_offer s h n (ready.Start m) (ready.Start k) lawful p q = ap ready.Start (p.1.0 ∙ sym q.1.0)
one_offer s h n (ready.Sync j) y lawful p q = absurd p.1
one_offer s h n (ready.Ask c) (ready.Sync k) lawful p q = absurd q.1
one_offer s h n (ready.Skip m) (ready.Sync k) lawful p q = absurd q.1
one_offer s h n (ready.Start m) (ready.Sync k) lawful p q = absurd q.1

-- one sync point may come
one_sync : (s : Schedule) (h : List Step) (j k : ℕ) → MaySync s h j → MaySync s h k → j ≡ k
one_sync s h j k p q = elim (cases_order j k) [
  | inl same ↦ same
  | inr differ ↦ elim differ [
    | inl below ↦ absurd (both_ways _ p.fresh (q.lower j below))
    | inr above ↦ absurd (both_ways _ q.fresh (p.lower k above))
  ]
]

-- one sync point is ready
one_ready_sync : (s : Schedule) (h : List Step) (x y : Ready) → IsReadySync s h (Some x) → IsReadySync s h (Some y) → x ≡ y
one_ready_sync s h (ready.Sync j) (ready.Sync k) p q = ap ready.Sync (one_sync s h j k p q)
one_ready_sync s h (ready.Ask c) y p q = absurd p
one_ready_sync s h (ready.Skip n) y p q = absurd p
one_ready_sync s h (ready.Start n) y p q = absurd p
one_ready_sync s h (ready.Sync j) (ready.Ask c) p q = absurd q
one_ready_sync s h (ready.Sync j) (ready.Skip n) p q = absurd q
one_ready_sync s h (ready.Sync j) (ready.Start n) p q = absurd q

-- one thing is ready among some systems
one_ready : (s : Schedule) (h : List Step) (ns : List ℕ) (x y : Ready) → IsLawful s h → IsReadyAmong s h ns (Some x) → IsReadyAmong s h ns (Some y) → x ≡ y
one_ready s h [] x y lawful p q = one_ready_sync s h x y p q
one_ready s h (n ∷ ns) x y lawful (inl p) (inl q) = let first : x ≡ p.0 = cc (p.1) in let second : y ≡ q.0 = cc (q.1) in
    first ∙ (one_offer s h n p.0 q.0 lawful p.2 q.2 ∙ sym second)
one_ready s h (n ∷ ns) x y lawful (inl p) (inr q) = absurd (q.0 p.0 p.2)
one_ready s h (n ∷ ns) x y lawful (inr p) (inl q) = absurd (p.0 q.0 q.2)
one_ready s h (n ∷ ns) x y lawful (inr p) (inr q) = one_ready s h ns x y lawful p.1 q.1

-- ---- one step is next

-- a step of what is ready, with a true answer, is one
one_step : (s : Schedule) (v : Interleaved) (r : Ready) (a b : Bool) → IsTrueAnswer s (step_of r a) (Some v) → IsTrueAnswer s (step_of r b) (Some v) → step_of r a ≡ step_of r b
one_step s v (ready.Ask c) a b p q = ap (Cond c) (p ∙ sym q)
one_step s v (ready.Skip n) a b p q = refl
one_step s v (ready.Start n) a b p q = refl
one_step s v (ready.Sync k) a b p q = refl

-- the next step of one thread, with a true answer, is one
one_next : (s : Schedule) (h : List Step) (v : Interleaved) (x y : Step) (o : Option ℕ) → IsLawful s h → IsNextSingle s h x o → IsNextSingle s h y o
    → IsTrueAnswer s x (Some v) → IsTrueAnswer s y (Some v) → x ≡ y
one_next s h v x y None lawful p q true_x true_y =
    let same : q.0 ≡ p.0 = one_ready s h s.order q.0 p.0 lawful q.2 p.2 in
    let other : y ≡ step_of p.0 q.1 = q.3 ∙ ap (λ r. step_of r q.1) same in
    p.3 ∙ (one_step s v p.0 p.1 q.1 (subst (λ (z : Step). IsTrueAnswer s z (Some v)) p.3 true_x) (subst (λ (z : Step). IsTrueAnswer s z (Some v)) other true_y) ∙ sym other)
one_next s h v x y (Some n) lawful p q true_x true_y = p ∙ sym q

-- ---- fronts of a list

-- a front of a single-threaded list is one
single_before : (s : Schedule) (later h : List Step) → IsSingle s (later ++ h) → IsSingle s h
single_before s [] h single = single
single_before s (step ∷ later) h single = single_before s later h single.1

-- its answers are true
answers_before : (s : Schedule) (bodies : List BodyMeaning) (start : State) (later h : List Step) → HasTrueAnswers s bodies start (later ++ h) → HasTrueAnswers s bodies start h
answers_before s bodies start [] h answers = answers
answers_before s bodies start (step ∷ later) h answers = answers_before s bodies start later h answers.1

-- what has a meaning has one at each front, interleaved and serial
woven_before : (s : Schedule) (bodies : List BodyMeaning) (start : State) (later h : List Step) (w : Interleaved) → interleaved s bodies start (later ++ h) ≡ Some w
    → (v : Interleaved) × (interleaved s bodies start h ≡ Some v)
woven_before s bodies start [] h w e = (w, e)
woven_before s bodies start (step ∷ later) h w e =
    let p = then-parts (interleaved s bodies start (later ++ h)) (interleaved_step s bodies step) w e in
    woven_before s bodies start later h p.0 p.1

serial_before : (s : Schedule) (bodies : List BodyMeaning) (start : State) (later h : List Step) (run : RunState) → serial s bodies start (later ++ h) ≡ Some run
    → (before : RunState) × (serial s bodies start h ≡ Some before)
serial_before s bodies start [] h run e = (run, e)
serial_before s bodies start (step ∷ later) h run e =
    let p = then-parts (serial s bodies start (later ++ h)) (serial_step s bodies step) run e in
    serial_before s bodies start later h p.0 p.1

-- a list is empty or has a last element
ends_in : (xs : List Step) → (xs ≡ []) ⊎ ((rest : List Step) × (x : Step) × (xs ≡ rest ++ x ∷ []))
ends_in [] = inl refl
ends_in (x ∷ xs) = elim (ends_in xs) [
  | inl e ↦ inr ([], x, ap (λ ys. x ∷ ys) e)
  | inr found ↦ inr (x ∷ found.0, found.1, ap (λ ys. x ∷ ys) found.2)
]

-- a list that goes on past a front is that front, or has a step right after it
next_after : (h later g : List Step) → h ≡ later ++ g → (h ≡ g) ⊎ ((rest : List Step) × (x : Step) × (h ≡ rest ++ x ∷ g))
next_after h later g e = elim (ends_in later) [
  | inl none ↦ inl (e ∙ ap (λ xs. xs ++ g) none)
  | inr found ↦ inr (found.0, found.1, e ∙ (ap (λ xs. xs ++ g) found.2 ∙ append_snoc found.0 found.1 g))
]

-- ---- nothing comes after a complete list

-- after a complete list no system is free
none_free : (s : Schedule) (h : List Step) (n : ℕ) → IsLawful s h → IsComplete s h → IsFree s h n → ⊥
none_free s h n lawful complete free = both_ways _ free.waits (ended_begun s h n lawful (complete.ends n free.known))

-- so no step may come
nothing_after : (s : Schedule) (h : List Step) (step : Step) → IsLawful s h → IsComplete s h → May s h step → ⊥
nothing_after s h (Cond c answer) lawful complete may = none_free s h may.member.0 lawful complete may.member.2
nothing_after s h (Start n) lawful complete may = none_free s h n lawful complete may.free
nothing_after s h (Skip n) lawful complete may = none_free s h n lawful complete may.free
nothing_after s h (Finish n) lawful complete may = both_ways _ (idle_at_end s h lawful complete n) may.running
nothing_after s h (Sync k) lawful complete may = both_ways _ may.fresh (complete.syncs k may.known)

-- ---- a run is one

-- the list of a run begins with each single-threaded list that has true answers
begins_with : (s : Schedule) (bodies : List BodyMeaning) (w : State) (h : List Step) (w' : State) → IsSingleRun s bodies w h w' → (g : List Step) → IsSingle s g
    → HasTrueAnswers s bodies w g → (later : List Step) × (h ≡ later ++ g)
begins_with s bodies w h w' r [] single answers = (h, sym (append-nil h))
begins_with s bodies w h w' r (y ∷ g) single answers =
    let p : (later : List Step) × (h ≡ later ++ g) = begins_with s bodies w h w' r g single.1 answers.1 in
    let sound = sound_run s bodies w h w' r in
    let woven = woven_before s bodies w p.0 g sound.woven (subst (λ l. interleaved s bodies w l ≡ Some sound.woven) p.1 sound.woven_meaning) in
    let lawful : IsLawful s (y ∷ g) = wide_lawful 1 s (y ∷ g) (single_is_wide s (y ∷ g) single) in
    elim (next_after h p.0 g p.1) [
      | inl whole ↦ absurd (nothing_after s g y lawful.1 (subst (IsComplete s) whole r.complete) lawful.0)
      | inr found ↦
          let single_x : IsSingle s (found.1 ∷ g) = single_before s found.0 (found.1 ∷ g) (subst (IsSingle s) found.2 r.single) in
          let answers_x : HasTrueAnswers s bodies w (found.1 ∷ g) = answers_before s bodies w found.0 (found.1 ∷ g) (subst (HasTrueAnswers s bodies w) found.2 r.answers) in
          let same = one_next s g woven.0 found.1 y (just_started g) lawful.1 single_x.0 single.0
          (subst (IsTrueAnswer s found.1) woven.1 answers_x.0) (subst (IsTrueAnswer s y) woven.1 answers.0) in
          (found.0, found.2 ∙ ap (λ x. found.0 ++ x ∷ g) same)
    ]

-- two runs from one state have the same steps
same_steps : (s : Schedule) (bodies : List BodyMeaning) (w : State) (h g : List Step) (w' v' : State) → IsSingleRun s bodies w h w' → IsSingleRun s bodies w g v' → h ≡ g
same_steps s bodies w h g w' v' r q =
    let p = begins_with s bodies w h w' r g q.single q.answers in
    elim (next_after h p.0 g p.1) [
      | inl same ↦ same
      | inr found ↦ absurd (nothing_after s g found.1 q.lawful q.complete (may_at s found.0 g found.1 (subst (IsLawful s) found.2 r.lawful)))
    ]

-- and the same end
pub single_run_is_one : SingleRunIsOne
single_run_is_one s bodies w h g w' v' r q =
    let same = same_steps s bodies w h g w' v' r q in
    let ends : Some r.end ≡ Some q.end = sym r.meaning ∙ (ap (serial s bodies w) same ∙ q.meaning) in
    let end : r.end ≡ q.end = cc in
    (same, sym r.leaves ∙ (ap (λ run. run.state) end ∙ q.leaves))

-- as many runs from one state have the same steps and the same end: compared as if they recorded nothing
pub single_runs_are_one : SingleRunsAreOne
single_runs_are_one s bodies w [] [] w' v' count ran other = (refl, sym ran ∙ other)
single_runs_are_one s bodies w [] (q ∷ qs) w' v' count ran other = absurd (omega (arith, count))
single_runs_are_one s bodies w (r ∷ rs) [] w' v' count ran other = absurd (omega (arith, count))
single_runs_are_one s bodies w (r ∷ rs) (q ∷ qs) w' v' count ran other =
    let first = single_run_is_one (recording s None) bodies w r.steps q.steps ran.0 other.0
    (plain_run (recording s r.sets) bodies w r.steps ran.0 ran.1) (plain_run (recording s q.sets) bodies w q.steps other.0 other.1) in
    let rest = single_runs_are_one s bodies ran.0 rs qs w' v' (omega (arith, count)) ran.2 (subst (λ v. AreSingleRuns s bodies v qs v') (sym first.1) other.2) in
    (ap₂ (λ x xs. x ∷ xs) first.0 rest.0, rest.1)

-- ---- what has a meaning doesn't stop

-- a run stops nowhere
run_goes_through : (s : Schedule) (bodies : List BodyMeaning) (w : State) (h : List Step) (w' : State) (front : List Step) (cause : Cause) → IsSingleRun s bodies w h w'
    → IsSingle s front → HasTrueAnswers s bodies w front → serial_cause s bodies w front ≡ Some cause → ⊥
run_goes_through s bodies w h w' front cause r single answers stops =
    let p = begins_with s bodies w h w' r front single answers in
    let there = serial_before s bodies w p.0 front r.end (subst (λ l. serial s bodies w l ≡ Some r.end) p.1 r.meaning) in
    let lacks = (lacks-serial s bodies w front).1 (subst IsSome (sym stops) refl) in
    let bad : None ≡ Some there.0 = sym lacks ∙ there.1 in
    cc

-- a front that stops
record StopsOn (s : Schedule) (bodies : List BodyMeaning) (w : State) (front : List Step) (cause : Cause) : Type 0 where
  single : IsSingle s front
  answers : HasTrueAnswers s bodies w front
  stops : serial_cause s bodies w front ≡ Some cause

-- each is one of a run that records nothing
plain_stop : (s : Schedule) (bodies : List BodyMeaning) (w : State) (front : List Step) (cause : Cause) → IsSingle s front → HasTrueAnswers s bodies w front →
    serial_cause s bodies w front ≡ Some cause → StopsOn (recording s None) bodies w front cause
plain_stop s bodies w front cause single answers stops = record {
  single = single-recording s None front single;
  answers = answers-recording s None bodies w front answers;
  stops = cause-recording s None bodies w front ∙ stops;
}

-- so is that of a stop
stop_of : (s : Schedule) (bodies : List BodyMeaning) (times : ℕ) (w : State) (cause : Cause) (stopped : IsStopped s bodies times w cause) →
    StopsOn (recording s None) bodies stopped.middle stopped.front.steps cause
stop_of s bodies times w cause stopped =
    plain_stop (recording s stopped.front.sets) bodies stopped.middle stopped.front.steps cause stopped.single stopped.answers stopped.stops

-- so many runs stop nowhere before their end
runs_go_through : (s : Schedule) (bodies : List BodyMeaning) (w : State) (rs qs : List Recorded) (w' middle : State) (front : List Step) (cause : Cause)
    → AreSingleRuns s bodies w rs w' → AreSingleRuns s bodies w qs middle → length qs < length rs → StopsOn (recording s None) bodies middle front cause → ⊥
runs_go_through s bodies w [] qs w' middle front cause ran before fewer stop = omega (arith, fewer)
runs_go_through s bodies w (r ∷ rs) [] w' middle front cause ran before fewer stop =
    run_goes_through (recording s None) bodies w r.steps ran.0 front cause (plain_run (recording s r.sets) bodies w r.steps ran.0 ran.1) stop.single
    (subst (λ v. HasTrueAnswers (recording s None) bodies v front) (sym before) stop.answers)
    (subst (λ v. serial_cause (recording s None) bodies v front ≡ Some cause) (sym before) stop.stops)
runs_go_through s bodies w (r ∷ rs) (q ∷ qs) w' middle front cause ran before fewer stop =
    let first = single_run_is_one (recording s None) bodies w r.steps q.steps ran.0 before.0
    (plain_run (recording s r.sets) bodies w r.steps ran.0 ran.1) (plain_run (recording s q.sets) bodies w q.steps before.0 before.1) in
    runs_go_through s bodies ran.0 rs qs w' middle front cause ran.2 (subst (λ v. AreSingleRuns s bodies v qs middle) (sym first.1) before.2)
    (omega (arith, fewer)) stop

-- where so many runs have a meaning, so many runs stop for no cause
pub defined_runs_go_through : DefinedRunsGoThrough
defined_runs_go_through s bodies times w cause defined stopped =
    runs_go_through s bodies w defined.runs stopped.complete_runs defined.end stopped.middle stopped.front.steps cause defined.ran stopped.ran
    (subst (λ n. length stopped.complete_runs < n) (sym defined.count) stopped.fewer) (stop_of s bodies times w cause stopped)

-- ---- runs stop for one cause

-- where a list stops that could open: at a step after a front that has a meaning
record StopsAt (s : Schedule) (bodies : List BodyMeaning) (w : State) (list : List Step) (cause : Cause) : Type 0 where
  later : List Step
  step : Step
  front : List Step
  run : RunState
  whole : list ≡ later ++ step ∷ front
  meaning : serial s bodies w front ≡ Some run
  stops : serial_cause_of s bodies step run ≡ Some cause

-- what a list meets first, it meets at its opening or at such a step
stops_at : (s : Schedule) (bodies : List BodyMeaning) (w : State) (list : List Step) (cause : Cause) → serial_cause s bodies w list ≡ Some cause →
    (cause_of_opening s w ≡ Some cause) ⊎ StopsAt s bodies w list cause
stops_at s bodies w [] cause e = inl e
stops_at s bodies w (x ∷ h) cause e = go (serial_cause s bodies w h) refl (serial s bodies w h) refl (lacks-serial s bodies w h) e (λ f. stops_at s bodies w h cause f)
  where
    later_stop : StopsAt s bodies w h cause → StopsAt s bodies w (x ∷ h) cause
    later_stop r = record {
      later = x ∷ r.later;
      step = r.step;
      front = r.front;
      run = r.run;
      whole = ap (λ xs. x ∷ xs) r.whole;
      meaning = r.meaning;
      stops = r.stops;
    }

    go : (o : Option Cause) → serial_cause s bodies w h ≡ o → (m : Option RunState) → serial s bodies w h ≡ m → LacksFor (serial s bodies w h) (serial_cause s bodies w h)
        → first_some o (serial_cause_at s bodies x (serial s bodies w h)) ≡ Some cause
        → (serial_cause s bodies w h ≡ Some cause → (cause_of_opening s w ≡ Some cause) ⊎ StopsAt s bodies w h cause)
        → (cause_of_opening s w ≡ Some cause) ⊎ StopsAt s bodies w (x ∷ h) cause
    go (Some d) q m p lacks f rest = elim (rest (q ∙ f)) [ inl opening ↦ inl opening | inr r ↦ inr (later_stop r) ]
    go None q None p lacks f rest = absurd (false≢true (subst (λ c. is_some c ≡ true) q (lacks.0 p)))
    go None q (Some run) p lacks f rest = inr (record {
      later = [];
      step = x;
      front = h;
      run = run;
      whole = refl;
      meaning = p;
      stops = sym (ap (serial_cause_at s bodies x) p) ∙ f;
    })

-- after a front that has a meaning one step with a true answer is next
one_same_next : (s : Schedule) (bodies : List BodyMeaning) (w : State) (h : List Step) (x y : Step) (run : RunState) → IsSingle s (x ∷ h) → IsSingle s (y ∷ h)
    → HasTrueAnswers s bodies w (x ∷ h) → HasTrueAnswers s bodies w (y ∷ h) → HasTrueSets s bodies w h → serial s bodies w h ≡ Some run → x ≡ y
one_same_next s bodies w h x y run single_x single_y answers_x answers_y sets e = go (just_started h) refl single_x.0 single_y.0
  where
    lawful : IsLawful s h
    lawful = wide_lawful 1 s h (single_is_wide s h single_x.1)

    go : (o : Option ℕ) → just_started h ≡ o → IsNextSingle s h x o → IsNextSingle s h y o → x ≡ y
    go (Some n) q p r = p ∙ sym r
    go None q p r =
        let there : interleaved s bodies w h ≡ Some (record { run = run; running_systems = [] }) =
        idle_same s bodies w h lawful sets (none_runs s h single_x.1 lawful q) ∙ ap (with_running_systems []) e in
        one_next s h (record { run = run; running_systems = [] }) x y None lawful p r
        (subst (IsTrueAnswer s x) there answers_x.0) (subst (IsTrueAnswer s y) there answers_y.0)

-- of two fronts that have a meaning one begins with the other
comparable : (s : Schedule) (bodies : List BodyMeaning) (w : State) (h k : List Step) (run : RunState) → IsSingle s h → IsSingle s k
    → HasTrueAnswers s bodies w h → HasTrueAnswers s bodies w k → HasTrueSets s bodies w h → serial s bodies w h ≡ Some run
    → ((later : List Step) × (k ≡ later ++ h)) ⊎ ((later : List Step) × (h ≡ later ++ k))
comparable s bodies w [] k run single_h single_k answers_h answers_k sets e = inl (k, sym (append-nil k))
comparable s bodies w (x ∷ h) k run single_h single_k answers_h answers_k sets e =
    let before = then-parts (serial s bodies w h) (serial_step s bodies x) run e in
    go before.0 before.1 (comparable s bodies w h k before.0 single_h.1 single_k answers_h.1 answers_k (sets_before s bodies w x h sets) before.1)
  where
    go : (there : RunState) → serial s bodies w h ≡ Some there → ((later : List Step) × (k ≡ later ++ h)) ⊎ ((later : List Step) × (h ≡ later ++ k))
        → ((later : List Step) × (k ≡ later ++ x ∷ h)) ⊎ ((later : List Step) × (x ∷ h ≡ later ++ k))
    go there f (inr longer) = inr (x ∷ longer.0, ap (λ xs. x ∷ xs) longer.1)
    go there f (inl shorter) = elim (next_after k shorter.0 h shorter.1) [
      | inl same ↦ inr (x ∷ [], ap (λ xs. x ∷ xs) (sym same))
      | inr found ↦
          let single_y : IsSingle s (found.1 ∷ h) = single_before s found.0 (found.1 ∷ h) (subst (IsSingle s) found.2 single_k) in
          let answers_y : HasTrueAnswers s bodies w (found.1 ∷ h) = answers_before s bodies w found.0 (found.1 ∷ h) (subst (HasTrueAnswers s bodies w) found.2 answers_k) in
          let same : found.1 ≡ x = one_same_next s bodies w h found.1 x there single_y single_h answers_y answers_h (sets_before s bodies w x h sets) f in
          inl (found.0, found.2 ∙ ap (λ y. found.0 ++ y ∷ h) same)
    ]

-- a list that stops at a step, with that step's list
record StoppedList (s : Schedule) (bodies : List BodyMeaning) (w : State) (step : Step) (front : List Step) (run : RunState) (cause : Cause) : Type 0 where
  single : IsSingle s (step ∷ front)
  answers : HasTrueAnswers s bodies w (step ∷ front)
  sets : HasTrueSets s bodies w front
  meaning : serial s bodies w front ≡ Some run
  stops : serial_cause_of s bodies step run ≡ Some cause

-- the list of a stop
stopped_list : (s : Schedule) (bodies : List BodyMeaning) (w : State) (list : List Step) (cause : Cause) → IsSingle s list → HasTrueAnswers s bodies w list
    → HasTrueSets s bodies w list → (r : StopsAt s bodies w list cause) → StoppedList s bodies w r.step r.front r.run cause
stopped_list s bodies w list cause single answers sets r = record {
  single = single_before s r.later (r.step ∷ r.front) (subst (IsSingle s) r.whole single);
  answers = answers_before s bodies w r.later (r.step ∷ r.front) (subst (HasTrueAnswers s bodies w) r.whole answers);
  sets = sets_before s bodies w r.step r.front (sets_front s bodies w r.later (r.step ∷ r.front) (subst (HasTrueSets s bodies w) r.whole sets));
  meaning = r.meaning;
  stops = r.stops;
}

-- where one front begins with the other, both stop for one cause
stop_within : (s : Schedule) (bodies : List BodyMeaning) (w : State) (x y : Step) (h k : List Step) (run end : RunState) (cause other : Cause)
    → StoppedList s bodies w x h run cause → StoppedList s bodies w y k end other → (later : List Step) → k ≡ later ++ h → cause ≡ other
stop_within s bodies w x y h k run end cause other p q later e = elim (next_after k later h e) [
  | inl same ↦
      let single_y : IsSingle s (y ∷ h) = subst (λ l. IsSingle s (y ∷ l)) same q.single in
      let answers_y : HasTrueAnswers s bodies w (y ∷ h) = subst (λ l. HasTrueAnswers s bodies w (y ∷ l)) same q.answers in
      let steps : x ≡ y = one_same_next s bodies w h x y run p.single single_y p.answers answers_y p.sets p.meaning in
      let ends : Some run ≡ Some end = sym p.meaning ∙ (ap (serial s bodies w) (sym same) ∙ q.meaning) in
      let runs : run ≡ end = cc in
      let causes : Some cause ≡ Some other = sym p.stops ∙ (ap₂ (serial_cause_of s bodies) steps runs ∙ q.stops) in
      cc
  | inr found ↦
      let single_z : IsSingle s (found.1 ∷ h) = single_before s found.0 (found.1 ∷ h) (subst (IsSingle s) found.2 q.single.1) in
      let answers_z : HasTrueAnswers s bodies w (found.1 ∷ h) = answers_before s bodies w found.0 (found.1 ∷ h) (subst (HasTrueAnswers s bodies w) found.2 q.answers.1) in
      let steps : found.1 ≡ x = one_same_next s bodies w h found.1 x run single_z p.single answers_z p.answers p.sets p.meaning in
      let there = serial_before s bodies w found.0 (found.1 ∷ h) end (subst (λ l. serial s bodies w l ≡ Some end) found.2 q.meaning) in
      let goes : serial_step s bodies x run ≡ Some there.0 =
      sym (ap (option_and_then (serial_step s bodies x)) p.meaning) ∙ (ap (λ z. serial s bodies w (z ∷ h)) (sym steps) ∙ there.1) in
      let lacks : serial_step s bodies x run ≡ None = (lacks-serial_step s bodies x run).1 (subst IsSome (sym p.stops) refl) in
      let bad : None ≡ Some there.0 = sym lacks ∙ goes in
      absurd cc
]

-- a front that has a meaning could open
opened : (s : Schedule) (bodies : List BodyMeaning) (w : State) (h : List Step) (run : RunState) → serial s bodies w h ≡ Some run → serial s bodies w [] ≡ None → ⊥
opened s bodies w h run e none =
    let before = serial_before s bodies w h [] run (subst (λ l. serial s bodies w l ≡ Some run) (sym (append-nil h)) e) in
    let bad : None ≡ Some before.0 = sym none ∙ before.1 in
    cc

-- two lists from one state stop for one cause
one_cause : (s : Schedule) (bodies : List BodyMeaning) (w : State) (f g : List Step) (cause other : Cause) → IsSingle s f → IsSingle s g
    → HasTrueAnswers s bodies w f → HasTrueAnswers s bodies w g → HasTrueSets s bodies w f → HasTrueSets s bodies w g
    → serial_cause s bodies w f ≡ Some cause → serial_cause s bodies w g ≡ Some other → cause ≡ other
one_cause s bodies w f g cause other single_f single_g answers_f answers_g sets_f sets_g stops_f stops_g = go (stops_at s bodies w f cause stops_f) (stops_at s bodies w g other stops_g)
  where
    unopened : (c : Cause) → cause_of_opening s w ≡ Some c → serial s bodies w [] ≡ None
    unopened c e = (lacks-serial s bodies w []).1 (subst IsSome (sym e) refl)

    go : (cause_of_opening s w ≡ Some cause) ⊎ StopsAt s bodies w f cause → (cause_of_opening s w ≡ Some other) ⊎ StopsAt s bodies w g other
        → cause ≡ other
    go (inl p) (inl q) = let same : Some cause ≡ Some other = sym p ∙ q in cc
    go (inl p) (inr q) = absurd (opened s bodies w q.front q.run q.meaning (unopened cause p))
    go (inr p) (inl q) = absurd (opened s bodies w p.front p.run p.meaning (unopened other q))
    go (inr p) (inr q) =
        let a = stopped_list s bodies w f cause single_f answers_f sets_f p in
        let b = stopped_list s bodies w g other single_g answers_g sets_g q in
        elim (comparable s bodies w p.front q.front p.run a.single.1 b.single.1 a.answers.1 b.answers.1 a.sets p.meaning) [
          | inl longer ↦ stop_within s bodies w p.step q.step p.front q.front p.run q.run cause other a b longer.0 longer.1
          | inr shorter ↦ sym (stop_within s bodies w q.step p.step q.front p.front q.run p.run other cause b a shorter.0 shorter.1)
        ]

-- two lists that record nothing stop for one cause
one_plain : (s : Schedule) (bodies : List BodyMeaning) (w : State) (f g : List Step) (cause other : Cause) → StopsOn (recording s None) bodies w f cause → StopsOn (recording s None) bodies w g other → cause ≡ other
one_plain s bodies w f g cause other p q =
    one_cause (recording s None) bodies w f g cause other p.single q.single p.answers q.answers (none_told s bodies w f) (none_told s bodies w g) p.stops q.stops

-- runs on one thread stop for one cause
pub stops_are_one : StopsAreOne
stops_are_one s bodies times others w cause other p q = elim (cases_order (length p.complete_runs) (length q.complete_runs)) [
  | inl same ↦
      let ends = (single_runs_are_one s bodies w p.complete_runs q.complete_runs p.middle q.middle same p.ran q.ran).1 in
      one_plain s bodies p.middle p.front.steps q.front.steps cause other (stop_of s bodies times w cause p)
      (subst (λ v. StopsOn (recording s None) bodies v q.front.steps other) (sym ends) (stop_of s bodies others w other q))
  | inr differ ↦ elim differ [
    | inl fewer ↦ absurd (runs_go_through s bodies w q.complete_runs p.complete_runs q.middle p.middle p.front.steps cause q.ran p.ran fewer (stop_of s bodies times w cause p))
    | inr more ↦ absurd (runs_go_through s bodies w p.complete_runs q.complete_runs p.middle q.middle q.front.steps other p.ran q.ran more (stop_of s bodies others w other q))
  ]
]
