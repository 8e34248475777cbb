-- A run keeps the shape of a state, interleaved and serial: each running system was shown what a state of the shape shows.
use Rattle.std.proofs.Common.{◌≡◌, ℕ, suc, ◌<◌, ◌≤◌, Bool, true, false, cond, refl, sym, ap, subst, ◌∙◌, List, [], ◌∷◌, ◌++◌, length, Some, ◌==◌, Result, Ok, Err, arith}
use Rattle.std.specs.List.{AllByRecursion}
use Rattle.model.specs.declared.steps.Step.{Step}
use Rattle.model.specs.declared.steps.Step.TheVariants.{Cond, Start, Skip, Finish, Sync}
use Rattle.model.specs.Lists.{provided}
use Rattle.model.specs.state.State.{Entity, State}
use Rattle.model.specs.shown.Input.{shown}
use Rattle.model.specs.shown.Outcome.{Outcome, IsWithin, BodyMeaning}
use Rattle.model.specs.steps.Schedule.{Schedule, params_of}
use Rattle.model.specs.steps.Built.{IsBuilt}
use Rattle.model.specs.steps.Lawful.{IsLawful, May}
use Rattle.model.specs.runs.RunState.{RunState, RunningSystem, has_tick, can_open, after_opening, begin_run, next_tick, memory_of_system, can_start, started_system, after_start, can_finish, overlaid, body_of, finish_with, finish, after_condition, after_grant, after_commands, can_sync, after_sync}
use Rattle.model.specs.runs.Meaning.{Interleaved, running_system, without_system, with_running_systems, interleaved, interleaved_step, serial, serial_step, serial_start}
use Rattle.model.specs.state.Shape.{IsStateOf, IsRunStateOf, AreIdsFor, BodiesKeepWithin}
use Rattle.model.proofs.lists.Lists.{provided-Some}
use Rattle.model.proofs.faults.Causes.{then-parts, with_running_systems-parts}
use Rattle.model.proofs.lists.Each.{each-weaker, each-append}
use Rattle.model.proofs.shape.RunStates.{run-opened, run-condition, run-start, run-sync, run-overlaid}
use Rattle.model.proofs.shape.GivenIds.{HasIds, ids-serial, ids-interleaved, ids-free}

-- a running system was shown what a state of the right shape shows, no later than the clock
pub record WasShown (widths : ℕ → ℕ) (s : Schedule) (clock : ℕ) (p : RunningSystem) : Type 0 where
  pub state : State
  pub shape : IsStateOf widths s state
  pub known : p.system < length s.systems
  pub ids : List Entity
  pub given : AreIdsFor s p.system ids
  pub seen : p.shown ≡ shown (params_of s p.system) (memory_of_system state p.system) state ids
  pub tick : p.tick ≤ clock

-- the same at a later clock
shown-later : (widths : ℕ → ℕ) (s : Schedule) (clock later : ℕ) → clock ≤ later → (p : RunningSystem) → WasShown widths s clock p → WasShown widths s later p
shown-later widths s clock later le p h = let tick = h.tick in
    record { state = h.state; shape = h.shape; known = h.known; ids = h.ids; given = h.given; seen = h.seen; tick = omega (arith, tick) }

-- a system that starts is shown the state at its start
pub shown-start : (widths : ℕ → ℕ) (s : Schedule) (n : ℕ) (run : RunState) → n < length s.systems → AreIdsFor s n (run.grants n) → IsRunStateOf widths s run
    → WasShown widths s (next_tick run.state) (started_system s n run)
unfolding started_system
shown-start widths s n run known given h =
    record { state = run.state; shape = h.state; known = known; ids = run.grants n; given = given; seen = refl; tick = omega arith }

-- what the body of such a system answers keeps within its parameters
within-answer : (widths : ℕ → ℕ) (s : Schedule) (bodies : List BodyMeaning) (clock : ℕ) (p : RunningSystem) (o : Outcome) → BodiesKeepWithin widths s bodies
    → WasShown widths s clock p → body_of bodies p.system p.shown ≡ Ok o → IsWithin widths (params_of s p.system) p.shown o
within-answer widths s bodies clock p o keep h e =
    subst (λ x. IsWithin widths (params_of s p.system) x o) (sym h.seen)
    (keep p.system h.state h.ids o h.known h.shape h.given (ap (body_of bodies p.system) (sym h.seen) ∙ e))

-- the finish of such a system keeps the shape, and the clock
pub run-finish : (widths : ℕ → ℕ) (s : Schedule) (bodies : List BodyMeaning) (p : RunningSystem) (run run' : RunState) → BodiesKeepWithin widths s bodies
    → WasShown widths s run.state.world.clock p → IsRunStateOf widths s run → finish s bodies p run ≡ Some run'
    → IsRunStateOf widths s run' × (run.state.world.clock ≡ run'.state.world.clock)
run-finish widths s bodies p run run' keep was h e = go (body_of bodies p.system p.shown) refl e
  where
    same_clock : (o : Outcome) → (overlaid s p o run).state.world.clock ≡ run.state.world.clock
    same_clock o = unfold overlaid in refl

    go : (answer : Result Outcome ℕ) → body_of bodies p.system p.shown ≡ answer → finish_with s answer p run ≡ Some run'
        → IsRunStateOf widths s run' × (run.state.world.clock ≡ run'.state.world.clock)
    go (Err refusal) answered f = absurd (let g = f in cc)
    go (Ok o) answered f = let q = provided-Some (can_finish s p.system o run) (overlaid s p o run) run' f in (
      subst (IsRunStateOf widths s) q.1 (run-overlaid widths s p o run was.tick (within-answer widths s bodies run.state.world.clock p o keep was answered) q.0 h),
      sym (same_clock o) ∙ ap (λ x. x.state.world.clock) q.1,
    )

-- ---- interleaved

-- an interleaved run has its shape: that of its run state, and its running systems were shown what such a state shows
pub record IsInterleavedOf (widths : ℕ → ℕ) (s : Schedule) (w : Interleaved) : Type 0 where
  pub run : IsRunStateOf widths s w.run
  pub running : AllByRecursion (WasShown widths s w.run.state.world.clock) w.running_systems

-- the running systems at a later clock
running-later : (widths : ℕ → ℕ) (s : Schedule) (clock later : ℕ) → clock ≤ later → (ps : List RunningSystem) → AllByRecursion (WasShown widths s clock) ps → AllByRecursion (WasShown widths s later) ps
running-later widths s clock later le ps h = each-weaker (WasShown widths s clock) (WasShown widths s later) (shown-later widths s clock later le) ps h

-- what is true of each running system is true of the one of a number
each-running : (P : RunningSystem → Type 0) (n : ℕ) (ps : List RunningSystem) (p : RunningSystem) → running_system n ps ≡ Some p → AllByRecursion P ps → P p
each-running P n [] p e h = absurd (let f = e in cc)
each-running P n (q ∷ qs) p e h = go (q.system == n) e (λ f. each-running P n qs p f h.1)
  where
    go : (b : Bool) → cond b (Some q) (running_system n qs) ≡ Some p → (running_system n qs ≡ Some p → P p) → P p
    go true f rest = let same : q ≡ p = cc in subst P same h.0
    go false f rest = rest f

-- and of those without one
each-without : (P : RunningSystem → Type 0) (n : ℕ) (ps : List RunningSystem) → AllByRecursion P ps → AllByRecursion P (without_system n ps)
each-without P n [] h = tt
each-without P n (q ∷ qs) h = go (q.system == n) (each-without P n qs h.1)
  where
    go : (b : Bool) → AllByRecursion P (without_system n qs) → AllByRecursion P (cond b qs (q ∷ without_system n qs))
    go true rest = h.1
    go false rest = (h.0, rest)

-- the clock after a condition, a start and a sync point
clock-condition : (s : Schedule) (c : ℕ) (run : RunState) → (after_condition s c run).state.world.clock ≡ suc run.state.world.clock
unfolding after_condition
clock-condition s c run = refl

clock-start : (s : Schedule) (n : ℕ) (run : RunState) → (after_start s n run).state.world.clock ≡ suc run.state.world.clock
unfolding after_start
clock-start s n run = refl

clock-sync : (s : Schedule) (k : ℕ) (run : RunState) → (after_sync s k run).state.world.clock ≡ suc run.state.world.clock
unfolding after_sync after_grant after_commands
clock-sync s k run = refl

-- running systems beside a run state at the next tick
interleaved-tick : (widths : ℕ → ℕ) (s : Schedule) (clock : ℕ) (run : RunState) (ps : List RunningSystem) → run.state.world.clock ≡ suc clock
    → IsRunStateOf widths s run → AllByRecursion (WasShown widths s clock) ps → IsInterleavedOf widths s (record { run = run; running_systems = ps })
interleaved-tick widths s clock run ps same h shown = record { run = h; running = running-later widths s clock run.state.world.clock (omega arith) ps shown }

-- a step that may come keeps the shape
interleaved-step : (widths : ℕ → ℕ) (s : Schedule) (bodies : List BodyMeaning) (h : List Step) (step : Step) (v w : Interleaved) → BodiesKeepWithin widths s bodies → IsLawful s h → May s h step
    → HasIds s h v.run → IsInterleavedOf widths s v → interleaved_step s bodies step v ≡ Some w → IsInterleavedOf widths s w
interleaved-step widths s bodies h (Cond c answer) v w keep lawful may ids shape e =
    let p = provided-Some (has_tick v.run.state) (record { run = after_condition s c v.run; running_systems = v.running_systems }) w e in
    subst (IsInterleavedOf widths s) p.1 (interleaved-tick widths s v.run.state.world.clock (after_condition s c v.run) v.running_systems (clock-condition s c v.run)
    (run-condition widths s c v.run p.0 shape.run) shape.running)
interleaved-step widths s bodies h (Start n) v w keep lawful may ids shape e =
    let p = provided-Some (can_start v.run) (record { run = after_start s n v.run; running_systems = v.running_systems ++ started_system s n v.run ∷ [] }) w e in
    let clock : (after_start s n v.run).state.world.clock ≡ suc v.run.state.world.clock = clock-start s n v.run in
    subst (IsInterleavedOf widths s) p.1 (record {
      run = run-start widths s n v.run p.0 shape.run;
      running = each-append (WasShown widths s (after_start s n v.run).state.world.clock) v.running_systems (started_system s n v.run ∷ [])
          (running-later widths s v.run.state.world.clock (after_start s n v.run).state.world.clock (omega arith) v.running_systems shape.running)
          (subst (λ t. WasShown widths s t (started_system s n v.run)) (sym clock) (shown-start widths s n v.run may.free.known (ids-free s h n v.run lawful may.free ids) shape.run), tt);
    })
interleaved-step widths s bodies h (Skip n) v w keep lawful may ids shape e = let same : v ≡ w = cc in subst (IsInterleavedOf widths s) same shape
interleaved-step widths s bodies h (Finish n) v w keep lawful may ids shape e =
    let p = then-parts (running_system n v.running_systems) (λ p. with_running_systems (without_system n v.running_systems) (finish s bodies p v.run)) w e in
    let q = with_running_systems-parts (without_system n v.running_systems) (finish s bodies p.0 v.run) w p.2 in
    let was = each-running (WasShown widths s v.run.state.world.clock) n v.running_systems p.0 p.1 shape.running in
    let kept = run-finish widths s bodies p.0 v.run q.0 keep was shape.run q.1 in
    subst (IsInterleavedOf widths s) (sym q.2) (record {
      run = kept.0;
      running = subst (λ t. AllByRecursion (WasShown widths s t) (without_system n v.running_systems)) kept.1
          (each-without (WasShown widths s v.run.state.world.clock) n v.running_systems shape.running);
    })
interleaved-step widths s bodies h (Sync k) v w keep lawful may ids shape e =
    let p = provided-Some (can_sync s k v.run) (record { run = after_sync s k v.run; running_systems = v.running_systems }) w e in
    subst (IsInterleavedOf widths s) p.1 (interleaved-tick widths s v.run.state.world.clock (after_sync s k v.run) v.running_systems (clock-sync s k v.run)
    (run-sync widths s k v.run p.0 shape.run) shape.running)

-- the opening of a run, where it can open
run-opening : (widths : ℕ → ℕ) (s : Schedule) (start : State) (run : RunState) → IsStateOf widths s start → begin_run s start ≡ Some run → IsRunStateOf widths s run
run-opening widths s start run shape e = let p = provided-Some (can_open s start) (after_opening s start) run e in
    subst (IsRunStateOf widths s) p.1 (run-opened widths s start p.0 shape)

-- an interleaved run keeps the shape, and that of its running systems
pub interleaved-shape : (widths : ℕ → ℕ) (s : Schedule) (bodies : List BodyMeaning) (start : State) (h : List Step) (w : Interleaved)
    → IsBuilt s → BodiesKeepWithin widths s bodies → IsStateOf widths s start → IsLawful s h → interleaved s bodies start h ≡ Some w → IsInterleavedOf widths s w
interleaved-shape widths s bodies start [] w built keep shape lawful e =
    let q = with_running_systems-parts [] (begin_run s start) w e in
    subst (IsInterleavedOf widths s) (sym q.2) (record { run = run-opening widths s start q.0 shape q.1; running = tt })
interleaved-shape widths s bodies start (step ∷ h) w built keep shape lawful e =
    let p = then-parts (interleaved s bodies start h) (interleaved_step s bodies step) w e in
    interleaved-step widths s bodies h step p.0 w keep lawful.1 lawful.0 (ids-interleaved s bodies start h p.0 built lawful.1 p.1)
    (interleaved-shape widths s bodies start h p.0 built keep shape lawful.1 p.1) p.2

-- so its run state has its shape
pub interleaved-keeps : (widths : ℕ → ℕ) (s : Schedule) (bodies : List BodyMeaning) (start : State) (h : List Step) (w : Interleaved)
    → IsBuilt s → BodiesKeepWithin widths s bodies → IsStateOf widths s start → IsLawful s h → interleaved s bodies start h ≡ Some w → IsRunStateOf widths s w.run
interleaved-keeps widths s bodies start h w built keep shape lawful e = (interleaved-shape widths s bodies start h w built keep shape lawful e).run

-- ---- serial

-- a whole start keeps the shape
pub run-whole_start : (widths : ℕ → ℕ) (s : Schedule) (bodies : List BodyMeaning) (n : ℕ) (run run' : RunState) → BodiesKeepWithin widths s bodies → n < length s.systems → AreIdsFor s n (run.grants n)
    → IsRunStateOf widths s run → serial_start s bodies n run ≡ Some run' → IsRunStateOf widths s run'
run-whole_start widths s bodies n run run' keep known given shape e =
    let p = then-parts (provided (can_start run) (after_start s n run)) (finish s bodies (started_system s n run)) run' e in
    let q = provided-Some (can_start run) (after_start s n run) p.0 p.1 in
    let f : finish s bodies (started_system s n run) (after_start s n run) ≡ Some run' = subst (λ x. finish s bodies (started_system s n run) x ≡ Some run') (sym q.1) p.2 in
    (run-finish widths s bodies (started_system s n run) (after_start s n run) run' keep
    (subst (λ t. WasShown widths s t (started_system s n run)) (sym (clock-start s n run)) (shown-start widths s n run known given shape))
    (run-start widths s n run q.0 shape) f).0

-- a step that may come keeps the shape
serial-step : (widths : ℕ → ℕ) (s : Schedule) (bodies : List BodyMeaning) (h : List Step) (step : Step) (run run' : RunState) → BodiesKeepWithin widths s bodies → IsLawful s h → May s h step
    → HasIds s h run → IsRunStateOf widths s run → serial_step s bodies step run ≡ Some run' → IsRunStateOf widths s run'
serial-step widths s bodies h (Cond c answer) run run' keep lawful may ids shape e = let p = provided-Some (has_tick run.state) (after_condition s c run) run' e in
    subst (IsRunStateOf widths s) p.1 (run-condition widths s c run p.0 shape)
serial-step widths s bodies h (Start n) run run' keep lawful may ids shape e = run-whole_start widths s bodies n run run' keep may.free.known (ids-free s h n run lawful may.free ids) shape e
serial-step widths s bodies h (Skip n) run run' keep lawful may ids shape e = let same : run ≡ run' = cc in subst (IsRunStateOf widths s) same shape
serial-step widths s bodies h (Finish n) run run' keep lawful may ids shape e = let same : run ≡ run' = cc in subst (IsRunStateOf widths s) same shape
serial-step widths s bodies h (Sync k) run run' keep lawful may ids shape e = let p = provided-Some (can_sync s k run) (after_sync s k run) run' e in
    subst (IsRunStateOf widths s) p.1 (run-sync widths s k run p.0 shape)

-- a serial run keeps the shape
pub serial-keeps : (widths : ℕ → ℕ) (s : Schedule) (bodies : List BodyMeaning) (start : State) (h : List Step) (run : RunState)
    → IsBuilt s → BodiesKeepWithin widths s bodies → IsStateOf widths s start → IsLawful s h → serial s bodies start h ≡ Some run → IsRunStateOf widths s run
serial-keeps widths s bodies start [] run built keep shape lawful e = run-opening widths s start run shape e
serial-keeps widths s bodies start (step ∷ h) run built keep shape lawful e =
    let p = then-parts (serial s bodies start h) (serial_step s bodies step) run e in
    serial-step widths s bodies h step p.0 run keep lawful.1 lawful.0 (ids-serial s bodies start h p.0 built lawful.1 p.1)
    (serial-keeps widths s bodies start h p.0 built keep shape lawful.1 p.1) p.2
