-- How a run goes on from turn to turn, ends and stops.
use Rattle.std.proofs.Common.{ℕ, suc, ◌+◌, ◌-◌, ◌<◌, ◌≤◌, Bool, true, false, ◌≡◌, ◌==◌, ◌||◌, ◌⊎◌, ◌↔◌, inl, inr, List, [], ◌∷◌, ◌++◌, length, map, Option, Some, None, IsSome, is_some, refl, sym, ◌∙◌, ap, subst, cond, arith}
use Rattle.std.proofs.lemmas.Bool.{eq-eqb, or_left, false≢true, false_from_ne_true}
use Rattle.std.specs.List.{AllByRecursion}
use Rattle.std.specs.Option.{option_and_then}
use Rattle.model.specs.declared.steps.Step.{Step}
use Rattle.model.specs.declared.steps.Step.TheVariants.{Cond, Start, Skip, Finish, Sync}
use Rattle.model.specs.declared.steps.Ready.TheVariants as ready
use Rattle.model.specs.Lists.{has, first_some, IsIn}
use Rattle.model.specs.state.State.{State}
use Rattle.model.specs.shown.Outcome.{BodyMeaning}
use Rattle.model.specs.steps.Schedule.{Schedule, Recorded, recording, access_of}
use Rattle.model.specs.steps.Lawful.{IsLawful, IsComplete, May, MaySync, NoneRuns, runs, sets_at}
use Rattle.model.specs.steps.Ready.{IsReady}
use Rattle.model.specs.steps.Widths.{IsNextWide, without, running_after}
use Rattle.model.specs.runs.RunState.{begin_run, has_tick, next_tick, can_sync, after_sync, answer_of}
use Rattle.model.specs.runs.Meaning.{with_running_systems, interleaved, interleaved_step, IsTrueAnswer, AreSetsOf, HasTrueSets}
use Rattle.model.specs.runs.Causes.{Cause, interleaved_cause, interleaved_cause_of, interleaved_cause_at}
use Rattle.model.specs.runs.WideRuns.{IsWideRun, AreWideRuns, WideStops, IsWideStopped}
use Rattle.model.proofs.lists.Members.{in-map}
use Rattle.model.proofs.order.Histories.{idle}
use Rattle.model.proofs.progress.Ends.{lists_end}
use Rattle.model.proofs.progress.Single.{wide_lawful}
use Rattle.model.proofs.progress.Width.{running_is}
use Rattle.model.proofs.faults.Causes.{lacks-interleaved}
use Rattle.model.proofs.serial.Holding.{Holds, holds}
use Rattle.model.proofs.serial.Recording.{opening_cause-recording}
use Rattle.executor_core.specs.Stands.{Stand, Stands, room}
use Rattle.worker_pool.specs.JobOut.{JobOut}
use Rattle.engine.specs.Jobs.{running_of, woven}
use Rattle.engine.specs.Deferred.{DeferredValue, run_with}
use Rattle.body.specs.Steps.{asked_at, ticked}
use Rattle.engine.specs.Stage.{Stage, IsTake}
use Rattle.engine.specs.Stops.{CannotOpen, CannotSync, LacksTick}
use Rattle.engine.proofs.InterleavedSteps.{ask_woven, sync_woven}

-- ---- numbers that run

length-without : (n : ℕ) (xs : List ℕ) → has n xs ≡ true → length (without n xs) + 1 ≡ length xs
length-without n [] h = absurd (cc)
length-without n (x ∷ xs) h = go (x == n) h (length-without n xs)
  where
    go : (b : Bool) → (b || has n xs) ≡ true → (has n xs ≡ true → length (without n xs) + 1 ≡ length xs) → length (cond b xs (x ∷ without n xs)) + 1 ≡ suc (length xs)
    go true e more = omega arith
    go false e more = let m = more e in omega arith

-- ---- the stages

module _ {B : Type 0} (width : ℕ) (s : Schedule) (bodies : List BodyMeaning) (start : State) where
  -- after the opening
  pub stage_open : (state : State) (deferred : DeferredValue) (out : List (JobOut B)) → begin_run s start ≡ Some (run_with state deferred) → AreSetsOf (sets_at s []) (Some (woven {B = B} state deferred [])) → out ≡ [] →
      Stage width s bodies start [] state deferred out
  stage_open state deferred out e told none =
      let meaning : interleaved s bodies start [] ≡ Some (woven {B = B} state deferred []) = ap (with_running_systems []) e in
      subst (Stage width s bodies start [] state deferred) (sym none)
      (record { wide = tt; running = refl; room = omega arith; answers = tt; sets = subst (AreSetsOf (sets_at s [])) (sym meaning) told; meaning = meaning })

  module _ (h : List Step) (state : State) (deferred : DeferredValue) (out : List (JobOut B)) (stage : Stage width s bodies start h state deferred out) where
    lawful-there : IsLawful s h
    lawful-there = wide_lawful width s h stage.wide

    -- what is known of the systems that run
    pub holds_there : Holds s h (woven state deferred out)
    holds_there = holds s bodies start h (woven state deferred out) lawful-there stage.sets stage.meaning

    -- a job that is out may come back
    pub running_there : (job : JobOut B) → IsIn job out → runs h job.system ≡ true
    running_there job i = holds_there.alive (running_of job) (in-map running_of out job i)

    -- with none out nothing runs
    pub none_there : length out ≡ 0 → NoneRuns h
    none_there none n = sym ((running_is s h lawful-there).same n) ∙ go (running_after h) (stage.running ∙ none)
      where
        go : (xs : List ℕ) → length xs ≡ 0 → has n xs ≡ false
        go [] e = refl
        go (x ∷ xs) e = absurd (omega (arith, e))

    next-ask : (c : ℕ) (answer : Bool) → length out < width → IsReady s h (Some (ready.Ask c)) → IsNextWide width s h (Cond c answer)
    next-ask c answer free is = ((let e = stage.running in omega arith), (ready.Ask c, answer, is, refl))

    next-skip : (n : ℕ) → length out < width → IsReady s h (Some (ready.Skip n)) → IsNextWide width s h (Skip n)
    next-skip n free is = ((let e = stage.running in omega arith), (ready.Skip n, false, is, refl))

    next-start : (n : ℕ) → length out < width → IsReady s h (Some (ready.Start n)) → IsNextWide width s h (Start n)
    next-start n free is = ((let e = stage.running in omega arith), (ready.Start n, false, is, refl))

    next-sync : (k : ℕ) → length out < width → IsReady s h (Some (ready.Sync k)) → IsNextWide width s h (Sync k)
    next-sync k free is = ((let e = stage.running in omega arith), (ready.Sync k, false, is, refl))

    next-finish : (n : ℕ) → (length out ≡ width) ⊎ IsReady s h None → IsNextWide width s h (Finish n)
    next-finish n (inl full) = inl (stage.running ∙ full)
    next-finish n (inr is) = inr is

    -- after a start
    pub stage_start : (n : ℕ) (state' : State) (deferred' : DeferredValue) (out' : List (JobOut B)) → IsTake s h (length out) width (ready.Start n) →
        interleaved_step s bodies (Start n) (woven state deferred out) ≡ Some (woven state' deferred' out') → length out' ≡ length out + 1 → Stage width s bodies start (Start n ∷ h) state' deferred' out'
    stage_start n state' deferred' out' next e more = record {
      wide = (next.allowed false, next-start n next.room next.is, stage.wide);
      running = let r = stage.running in omega arith;
      room = let r = next.room in omega arith;
      answers = (tt, stage.answers);
      sets = stage.sets;
      meaning = ap (option_and_then (interleaved_step s bodies (Start n))) stage.meaning ∙ e;
    }

    -- after a condition was asked
    pub stage_ask : (c : ℕ) (answer : Bool) (state' : State) → IsTake s h (length out) width (ready.Ask c) → answer ≡ answer_of s c (run_with state deferred) → has_tick state ≡ true →
        state' ≡ asked_at c (access_of s c).reads (next_tick state) (ticked state) → Stage width s bodies start (Cond c answer ∷ h) state' deferred out
    stage_ask c answer state' next told tick asked = subst (λ x. Stage width s bodies start (Cond c answer ∷ h) x deferred out) (sym asked) (record {
      wide = (next.allowed answer, next-ask c answer next.room next.is, stage.wide);
      running = stage.running;
      room = stage.room;
      answers = (subst (IsTrueAnswer s (Cond c answer)) (sym stage.meaning) told, stage.answers);
      sets = stage.sets;
      meaning = ap (option_and_then (interleaved_step s bodies (Cond c answer))) stage.meaning ∙ ask_woven s bodies c answer state deferred (map running_of out) tick;
    })

    -- after a skip
    pub stage_skip : (n : ℕ) → IsTake s h (length out) width (ready.Skip n) → Stage width s bodies start (Skip n ∷ h) state deferred out
    stage_skip n next = record {
      wide = (next.allowed false, next-skip n next.room next.is, stage.wide);
      running = stage.running;
      room = stage.room;
      answers = (tt, stage.answers);
      sets = stage.sets;
      meaning = ap (option_and_then (interleaved_step s bodies (Skip n))) stage.meaning;
    }

    -- after a sync point
    pub stage_sync : (k : ℕ) (state' : State) (deferred' : DeferredValue) → IsTake s h (length out) width (ready.Sync k) → can_sync s k (run_with state deferred) ≡ true →
        run_with state' deferred' ≡ after_sync s k (run_with state deferred) → AreSetsOf (sets_at s (Sync k ∷ h)) (Some (woven state' deferred' out)) → Stage width s bodies start (Sync k ∷ h) state' deferred' out
    stage_sync k state' deferred' next can synced told =
        let meaning : interleaved s bodies start (Sync k ∷ h) ≡ Some (woven state' deferred' out)
        = ap (option_and_then (interleaved_step s bodies (Sync k))) stage.meaning ∙ sync_woven s bodies k state state' deferred deferred' (map running_of out) can synced in
        record {
          wide = (next.allowed false, next-sync k next.room next.is, stage.wide);
          running = stage.running;
          room = stage.room;
          answers = (tt, stage.answers);
          sets = (subst (AreSetsOf (sets_at s (Sync k ∷ h))) (sym meaning) told, stage.sets);
          meaning = meaning;
        }

    -- where a sync point may come no job is out
    pub none_out : (k : ℕ) → MaySync s h k → length out ≡ 0
    none_out k may = sym stage.running ∙ ap length (go (running_after h) (λ n. (running_is s h lawful-there).same n ∙ none n))
      where
        none : (n : ℕ) → runs h n ≡ false
        none n = false_from_ne_true (runs h n) (idle s h k n lawful-there may)

        go : (xs : List ℕ) → ((n : ℕ) → has n xs ≡ false) → xs ≡ []
        go [] e = refl
        go (x ∷ xs) e = absurd (false≢true (sym (e x) ∙ or_left (x == x) (has x xs) (eq-eqb x x refl)))

    -- after a finish
    pub stage_finish : (n : ℕ) (state' : State) (deferred' : DeferredValue) (out' : List (JobOut B)) → (length out ≡ width) ⊎ IsReady s h None → runs h n ≡ true →
        interleaved_step s bodies (Finish n) (woven state deferred out) ≡ Some (woven state' deferred' out') → length out' + 1 ≡ length out → Stage width s bodies start (Finish n ∷ h) state' deferred' out'
    stage_finish n state' deferred' out' waits runs-now e fewer = record {
      wide = (record { running = runs-now }, next-finish n waits, stage.wide);
      running = let l = length-without n (running_after h) ((running_is s h lawful-there).same n ∙ runs-now) in let r = stage.running in omega arith;
      room = let r = stage.room in omega arith;
      answers = (tt, stage.answers);
      sets = stage.sets;
      meaning = ap (option_and_then (interleaved_step s bodies (Finish n))) stage.meaning ∙ e;
    }

    -- at the end
    pub stage_end : length out ≡ 0 → IsComplete s h → IsWideRun width s bodies start h state
    stage_end none complete = record {
      wide = stage.wide;
      complete = complete;
      answers = stage.answers;
      sets = stage.sets;
      end = woven state deferred out;
      meaning = stage.meaning;
      leaves = refl;
    }

    -- ---- where a run stops

    stops-at : (step : Step) (cause : Cause) → May s h step → IsNextWide width s h step → IsTrueAnswer s step (interleaved s bodies start h) → interleaved_cause_of s bodies step (woven state deferred out) ≡ Some cause → WideStops width s bodies start cause
    stops-at step cause may next answer e =
        let stops : interleaved_cause s bodies start (step ∷ h) ≡ Some cause
        = ap (λ c. first_some c (interleaved_cause_at s bodies step (interleaved s bodies start h)))
        (no-cause (interleaved s bodies start h) (woven state deferred out) (interleaved_cause s bodies start h) (lacks-interleaved s bodies start h lawful-there) stage.meaning)
        ∙ ap (interleaved_cause_at s bodies step) stage.meaning ∙ e in
        record {
          front = record { steps = step ∷ h; sets = s.sets };
          wide = (may, next, stage.wide);
          answers = (answer, stage.answers);
          sets = sets-stopped step ((lacks-interleaved s bodies start (step ∷ h) (may, lawful-there)).1 (subst IsSome (sym stops) refl));
          stops = stops;
        }
      where
        -- kind sets are recorded right after a step that leads nowhere
        no-list : (sets : Option (List ℕ)) → AreSetsOf sets None
        no-list None = tt
        no-list (Some numbers) = tt

        sets-stopped : (last : Step) → interleaved s bodies start (last ∷ h) ≡ None → HasTrueSets s bodies start (last ∷ h)
        sets-stopped (Cond c told) none = stage.sets
        sets-stopped (Start n) none = stage.sets
        sets-stopped (Skip n) none = stage.sets
        sets-stopped (Finish n) none = stage.sets
        sets-stopped (Sync k) none = (subst (AreSetsOf (sets_at s (Sync k ∷ h))) (sym none) (no-list (sets_at s (Sync k ∷ h))), stage.sets)

        -- a meaning that is there meets no cause
        no-cause : {A : Type 0} (o : Option A) (x : A) (c : Option Cause) → (o ≡ None) ↔ IsSome c → o ≡ Some x → c ≡ None
        no-cause o x None lacks e = refl
        no-cause o x (Some c) lacks e = absurd (let none : o ≡ None = lacks.1 refl in cc)

    -- at what is ready, for the cause that it meets
    pub stops_start : (n : ℕ) (cause : Cause) → IsTake s h (length out) width (ready.Start n) → interleaved_cause_of s bodies (Start n) (woven state deferred out) ≡ Some cause → WideStops width s bodies start cause
    stops_start n cause next e = stops-at (Start n) cause (next.allowed false) (next-start n next.room next.is) tt e

    pub stops_ask : (c : ℕ) (cause : Cause) → IsTake s h (length out) width (ready.Ask c) → LacksTick state cause → WideStops width s bodies start cause
    stops_ask c cause next e =
        let answer = answer_of s c (run_with state deferred) in
        stops-at (Cond c answer) cause (next.allowed answer) (next-ask c answer next.room next.is) (subst (IsTrueAnswer s (Cond c answer)) (sym stage.meaning) refl) e

    pub stops_sync : (k : ℕ) (cause : Cause) → IsTake s h (length out) width (ready.Sync k) → CannotSync s k (run_with state deferred) cause → WideStops width s bodies start cause
    stops_sync k cause next e = stops-at (Sync k) cause (next.allowed false) (next-sync k next.room next.is) tt e

    -- at a finish
    pub stops_finish : (n : ℕ) (cause : Cause) → (length out ≡ width) ⊎ IsReady s h None → runs h n ≡ true → interleaved_cause_of s bodies (Finish n) (woven state deferred out) ≡ Some cause → WideStops width s bodies start cause
    stops_finish n cause waits runs-now e = stops-at (Finish n) cause (record { running = runs-now }) (next-finish n waits) tt e

-- at the opening
pub stops_open : (width : ℕ) (s : Schedule) (bodies : List BodyMeaning) (start : State) (cause : Cause) → CannotOpen s start cause → WideStops width s bodies start cause
stops_open width s bodies start cause e = record { front = record { steps = []; sets = None }; wide = tt; answers = tt; sets = tt; stops = opening_cause-recording s None start ∙ e }

-- whatever a run has recorded before
pub stops_plain : (width : ℕ) (s : Schedule) (sets : Option (List (List ℕ))) (bodies : List BodyMeaning) (start : State) (cause : Cause) → WideStops width (recording s sets) bodies start cause → WideStops width s bodies start cause
stops_plain width s sets bodies start cause stops = record { front = stops.front; wide = stops.wide; answers = stops.answers; sets = stops.sets; stops = stops.stops }

-- ---- several runs

-- one more run
pub runs_more : (width : ℕ) (s : Schedule) (bodies : List BodyMeaning) (w : State) (rs : List Recorded) (middle : State) (r : Recorded) (w' : State) →
    AreWideRuns width s bodies w rs middle → IsWideRun width (recording s r.sets) bodies middle r.steps w' → AreWideRuns width s bodies w (rs ++ r ∷ []) w'
runs_more width s bodies w [] middle r w' ran one = (w', subst (λ x. IsWideRun width (recording s r.sets) bodies x r.steps w') (sym ran) one, refl)
runs_more width s bodies w (g ∷ gs) middle r w' ran one = (ran.0, ran.1, runs_more width s bodies ran.0 gs middle r w' ran.2 one)

-- which records kind sets
pub records_more : (rs : List Recorded) (r : Recorded) → AllByRecursion (λ x. is_some x.sets ≡ true) rs → is_some r.sets ≡ true → AllByRecursion (λ x. is_some x.sets ≡ true) (rs ++ r ∷ [])
records_more [] r all one = (one, tt)
records_more (x ∷ xs) r all one = (all.0, records_more xs r all.1 one)

-- where the next one stops
pub stopped : (width : ℕ) (s : Schedule) (bodies : List BodyMeaning) (times : ℕ) (w : State) (hs : List Recorded) (middle : State) (cause : Cause) →
    AreWideRuns width s bodies w hs middle → length hs < times → WideStops width s bodies middle cause → IsWideStopped width s bodies times w cause
stopped width s bodies times w hs middle cause ran fewer stops = record { complete_runs = hs; fewer = fewer; middle = middle; ran = ran; stopped = stops }

-- ---- a turn of the loop

-- the measure falls with each step
pub falls : (core : Stand) (s : Schedule) (sets : Option (List (List ℕ))) (h longer : List Step) (step : Step) → core.schedule ≡ s → Stands core sets longer → longer ≡ step ∷ h →
    room s - length longer < room s - length h
falls core s sets h longer step same stands more =
    let bound : length longer ≤ room s = lists_end (recording s sets) longer (subst (λ (x : Schedule). IsLawful (recording x sets) longer) same stands.lawful) in
    let e : length longer ≡ suc (length h) = ap length more in
    omega arith
