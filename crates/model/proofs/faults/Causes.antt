-- A meaning lacks exactly where it meets a cause, serially and, for a lawful list, interleaved.
use Rattle.std.proofs.Common.{◌≡◌, ℕ, Bool, true, false, not, cond, ◌⊎◌, ◌↔◌, inl, inr, refl, sym, ap, subst, ◌∙◌, List, [], ◌∷◌, ◌++◌, Option, Some, None, IsSome, ◌||◌, ◌&&◌, ◌==◌, eqb-true, eq-eqb, option_and_then, Result, Ok, Err}
use Rattle.std.proofs.lemmas.Bool.{false≢true, cond-true, cond-false, cases_Bool}
use Rattle.model.specs.declared.steps.Step.{Step}
use Rattle.model.specs.declared.steps.Step.TheVariants.{Cond, Start, Skip, Finish, Sync}
use Rattle.model.specs.Lists.{provided, first_some}
use Rattle.model.specs.state.State.{State}
use Rattle.model.specs.shown.Outcome.{BodyMeaning, Outcome}
use Rattle.model.specs.steps.Schedule.{Schedule}
use Rattle.model.specs.steps.Lawful.{IsLawful, May, runs, started, finished}
use Rattle.model.specs.runs.RunState.{RunState, RunningSystem, has_tick, has_ids_to_open, can_open, after_opening, begin_run, can_start, started_system, body_of, can_finish, after_start, after_condition, has_ids_to_sync, can_sync, after_sync, overlaid, finish, finish_with}
use Rattle.model.specs.runs.Meaning.{Interleaved, running_system, without_system, with_running_systems, serial, interleaved, serial_step, serial_start, interleaved_step}
use Rattle.model.specs.runs.Causes.{Cause, unless, cause_of_opening, cause_of_start, cause_of_sync, cause_of_answer, cause_of_finish, serial_cause_of, serial_cause_at, serial_cause, cause_of_running, interleaved_cause_of, interleaved_cause_at, interleaved_cause}
use Rattle.model.proofs.serial.Holding.{system_of-started}
use Rattle.model.proofs.lists.Lists.{provided-Some}
use Rattle.model.specs.runs.Causes.Cause.{NoTick, NoIds, NoEventNumber}

-- an option lacks exactly where there is a cause
abbrev pub LacksFor : {A : Type 0} → Option A → Option Cause → Type 0
LacksFor o cause = (o ≡ None) ↔ IsSome cause

-- a value that is there only where a test is passed lacks where the test fails
pub lacks-provided : {A : Type 0} (b : Bool) (x : A) (cause : Cause) → LacksFor (provided b x) (unless b cause)
lacks-provided true x cause = (λ e. cc, λ h. absurd (false≢true h))
lacks-provided false x cause = (λ e. refl, λ h. refl)

-- a value that is there lacks for no cause
pub lacks-Some : {A : Type 0} (x : A) → LacksFor (Some x) None
lacks-Some x = (λ e. cc, λ h. absurd (false≢true h))

-- one step after another lacks where the first lacks, or the second on what the first left
pub lacks-then : {A B : Type 0} (o : Option A) (f : A → Option B) (cause : Option Cause) (next : Option A → Option Cause) → next None ≡ None
    → LacksFor o cause → ((x : A) → o ≡ Some x → LacksFor (f x) (next (Some x))) → LacksFor (option_and_then f o) (first_some cause (next o))
lacks-then None f None next none first second = absurd (false≢true (first.0 refl))
lacks-then None f (Some c) next none first second = (λ e. refl, λ h. refl)
lacks-then (Some x) f None next none first second = second x refl
lacks-then (Some x) f (Some c) next none first second = absurd (let e = first.1 refl in cc)

-- the answer of a body, laid over a run state, lacks for its cause
pub lacks-finish_with : (s : Schedule) (answer : Result Outcome ℕ) (p : RunningSystem) (run : RunState) → LacksFor (finish_with s answer p run) (cause_of_answer s p answer run)
lacks-finish_with s (Err refusal) p run = (λ e. refl, λ h. refl)
lacks-finish_with s (Ok outcome) p run = lacks-provided (can_finish s p.system outcome run) (overlaid s p outcome run) NoEventNumber

-- a value provided under two tests lacks for the first that fails
pub lacks-provided_both : {A : Type 0} (b c : Bool) (x : A) (first second : Cause) → LacksFor (provided (b && c) x) (first_some (unless b first) (unless c second))
lacks-provided_both true c x first second = lacks-provided c x second
lacks-provided_both false c x first second = (λ e. refl, λ h. refl)

-- an opening lacks for its tick or its ids
pub lacks-opening : {A : Type 0} (s : Schedule) (start : State) (x : A) → LacksFor (provided (can_open s start) x) (cause_of_opening s start)
unfolding can_open
lacks-opening s start x = lacks-provided_both (has_tick start) (has_ids_to_open s start) x NoTick NoIds

-- so does a sync point
pub lacks-sync : {A : Type 0} (s : Schedule) (k : ℕ) (run : RunState) (x : A) → LacksFor (provided (can_sync s k run) x) (cause_of_sync s k run)
unfolding can_sync
lacks-sync s k run x = lacks-provided_both (has_tick run.state) (has_ids_to_sync s k run) x NoTick NoIds

-- a start lacks for its tick
pub lacks-start : {A : Type 0} (run : RunState) (x : A) → LacksFor (provided (can_start run) x) (cause_of_start run)
lacks-start run x = lacks-provided (has_tick run.state) x NoTick

-- a whole start lacks for its start, then for its finish
pub lacks-whole_start : (s : Schedule) (bodies : List BodyMeaning) (n : ℕ) (run : RunState)
    → LacksFor (serial_start s bodies n run) (first_some (cause_of_start run) (cause_of_finish s bodies (started_system s n run) (after_start s n run)))
lacks-whole_start s bodies n run = go (can_start run) (cause_of_start run) (lacks-start run (after_start s n run))
  where
    finished_whole : LacksFor (finish s bodies (started_system s n run) (after_start s n run)) (cause_of_finish s bodies (started_system s n run) (after_start s n run))
    finished_whole = lacks-finish_with s (body_of bodies (started_system s n run).system (started_system s n run).shown) (started_system s n run) (after_start s n run)

    go : (b : Bool) (cause : Option Cause) → LacksFor (provided b (after_start s n run)) cause
        → LacksFor (option_and_then (finish s bodies (started_system s n run)) (provided b (after_start s n run)))
        (first_some cause (cause_of_finish s bodies (started_system s n run) (after_start s n run)))
    go true None first = finished_whole
    go true (Some c) first = absurd (let e = first.1 refl in cc)
    go false None first = absurd (false≢true (first.0 refl))
    go false (Some c) first = (λ e. refl, λ h. refl)

-- a serial step lacks for its cause
pub lacks-serial_step : (s : Schedule) (bodies : List BodyMeaning) (step : Step) (run : RunState) → LacksFor (serial_step s bodies step run) (serial_cause_of s bodies step run)
lacks-serial_step s bodies (Cond c answer) run = lacks-provided (has_tick run.state) (after_condition s c run) NoTick
lacks-serial_step s bodies (Start n) run = lacks-whole_start s bodies n run
lacks-serial_step s bodies (Skip n) run = lacks-Some run
lacks-serial_step s bodies (Finish n) run = lacks-Some run
lacks-serial_step s bodies (Sync k) run = lacks-sync s k run (after_sync s k run)

-- a serial meaning lacks exactly where it meets a cause
pub lacks-serial : (s : Schedule) (bodies : List BodyMeaning) (start : State) (h : List Step) → LacksFor (serial s bodies start h) (serial_cause s bodies start h)
lacks-serial s bodies start [] = lacks-opening s start (after_opening s start)
lacks-serial s bodies start (step ∷ h) = lacks-then (serial s bodies start h) (serial_step s bodies step) (serial_cause s bodies start h) (serial_cause_at s bodies step) refl
    (lacks-serial s bodies start h) (λ run e. lacks-serial_step s bodies step run)

-- ---- interleaved

-- some running system has a number
abbrev pub IsThere : ℕ → List RunningSystem → Type 0
IsThere n ps = (p : RunningSystem) × (running_system n ps ≡ Some p)

-- the first is there where it has the number
there-first : (n : ℕ) (p : RunningSystem) (ps : List RunningSystem) → (p.system == n) ≡ true → IsThere n (p ∷ ps)
there-first n p ps e = (p, cond-true (p.system == n) (Some p) (running_system n ps) e)

-- one of the others is there where the first hasn't the number
there-later : (n : ℕ) (p : RunningSystem) (ps : List RunningSystem) → (p.system == n) ≡ false → IsThere n ps → IsThere n (p ∷ ps)
there-later n p ps e h = (h.0, cond-false (p.system == n) (Some p) (running_system n ps) e ∙ h.1)

-- who is there is the first or one of the others
there-cases : (n : ℕ) (p : RunningSystem) (ps : List RunningSystem) → IsThere n (p ∷ ps) → ((p.system == n) ≡ true) ⊎ (((p.system == n) ≡ false) × IsThere n ps)
there-cases n p ps h = go (p.system == n) refl
  where
    go : (b : Bool) → (p.system == n) ≡ b → ((p.system == n) ≡ true) ⊎ (((p.system == n) ≡ false) × IsThere n ps)
    go true e = inl e
    go false e = inr (e, (h.0, sym (cond-false (p.system == n) (Some p) (running_system n ps) e) ∙ h.1))

-- a running system that is there is there with one more at the end
there-before : (n : ℕ) (ps : List RunningSystem) (q : RunningSystem) → IsThere n ps → IsThere n (ps ++ q ∷ [])
there-before n [] q h = absurd (let e = h.1 in cc)
there-before n (p ∷ ps) q h = go (there-cases n p ps h) (there-before n ps q)
  where
    go : ((p.system == n) ≡ true) ⊎ (((p.system == n) ≡ false) × IsThere n ps) → (IsThere n ps → IsThere n (ps ++ q ∷ [])) → IsThere n (p ∷ (ps ++ q ∷ []))
    go (inl e) rest = there-first n p (ps ++ q ∷ []) e
    go (inr e) rest = there-later n p (ps ++ q ∷ []) e.0 (rest e.1)

-- the one at the end is there
there-last : (n : ℕ) (ps : List RunningSystem) (q : RunningSystem) → (q.system == n) ≡ true → IsThere n (ps ++ q ∷ [])
there-last n [] q e = there-first n q [] e
there-last n (p ∷ ps) q e = go (cases_Bool (p.system == n)) (there-last n ps q e)
  where
    go : ((p.system == n) ≡ true) ⊎ ((p.system == n) ≡ false) → IsThere n (ps ++ q ∷ []) → IsThere n (p ∷ (ps ++ q ∷ []))
    go (inl same) rest = there-first n p (ps ++ q ∷ []) same
    go (inr other) rest = there-later n p (ps ++ q ∷ []) other rest

-- a running system is there without another
there-without : (n m : ℕ) (ps : List RunningSystem) → (m ≡ n → ⊥) → IsThere n ps → IsThere n (without_system m ps)
there-without n m [] differ h = absurd (let e = h.1 in cc)
there-without n m (p ∷ ps) differ h = go (p.system == m) refl (there-cases n p ps h) (there-without n m ps differ)
  where
    go : (b : Bool) → (p.system == m) ≡ b → ((p.system == n) ≡ true) ⊎ (((p.system == n) ≡ false) × IsThere n ps) → (IsThere n ps → IsThere n (without_system m ps))
        → IsThere n (cond b ps (p ∷ without_system m ps))
    go true e (inl same) rest = absurd (differ (sym (eqb-true p.system m e) ∙ eqb-true p.system n same))
    go true e (inr other) rest = other.1
    go false e (inl same) rest = there-first n p (without_system m ps) same
    go false e (inr other) rest = there-later n p (without_system m ps) other.0 (rest other.1)

-- a run state with running systems that is there
pub with_running_systems-parts : (ps : List RunningSystem) (o : Option RunState) (w : Interleaved) → with_running_systems ps o ≡ Some w
    → (run : RunState) × (o ≡ Some run) × (w ≡ record { run = run; running_systems = ps })
with_running_systems-parts ps None w e = absurd (let h = e in cc)
with_running_systems-parts ps (Some run) w e = (run, refl, cc)

-- one after another that is there
pub then-parts : {A B : Type 0} (o : Option A) (f : A → Option B) (y : B) → option_and_then f o ≡ Some y → (x : A) × (o ≡ Some x) × (f x ≡ Some y)
then-parts None f y e = absurd (let h = e in cc)
then-parts (Some x) f y e = (x, refl, e)

-- a system that runs after a longer history is the one just started, or ran before and wasn't just finished
runs-longer : (s f s' f' : Bool) → ((s || s') && not (f || f')) ≡ true → (f ≡ false) × ((s ≡ true) ⊎ ((s' && not f') ≡ true))
runs-longer true false s' f' e = (refl, inl refl)
runs-longer false false s' f' e = (refl, inr e)
runs-longer true true s' f' e = absurd (false≢true e)
runs-longer false true true f' e = absurd (false≢true e)
runs-longer false true false f' e = absurd (false≢true e)

-- a step keeps each system that runs among the running systems
listed-step : (s : Schedule) (bodies : List BodyMeaning) (step : Step) (h : List Step) (v w : Interleaved) (n : ℕ) → interleaved_step s bodies step v ≡ Some w
    → (runs h n ≡ true → IsThere n v.running_systems) → runs (step ∷ h) n ≡ true → IsThere n w.running_systems
listed-step s bodies (Cond c answer) h v w n e before r =
    let p = provided-Some (has_tick v.run.state) (record { run = after_condition s c v.run; running_systems = v.running_systems }) w e in
    subst (λ x. IsThere n x.running_systems) p.1 (before r)
listed-step s bodies (Start m) h v w n e before r =
    let p = provided-Some (can_start v.run) (record { run = after_start s m v.run; running_systems = v.running_systems ++ started_system s m v.run ∷ [] }) w e in
    subst (λ x. IsThere n x.running_systems) p.1 (go (runs-longer (m == n) false (started h n) (finished h n) r).1)
  where
    go : ((m == n) ≡ true) ⊎ ((started h n && not (finished h n)) ≡ true) → IsThere n (v.running_systems ++ started_system s m v.run ∷ [])
    go (inl same) = there-last n v.running_systems (started_system s m v.run) (ap (λ x. x == n) (system_of-started s m v.run) ∙ same)
    go (inr more) = there-before n v.running_systems (started_system s m v.run) (before more)
listed-step s bodies (Skip m) h v w n e before r = let same : v ≡ w = cc in subst (λ x. IsThere n x.running_systems) same (before r)
listed-step s bodies (Finish m) h v w n e before r =
    let p = then-parts (running_system m v.running_systems) (λ p. with_running_systems (without_system m v.running_systems) (finish s bodies p v.run)) w e in
    let q = with_running_systems-parts (without_system m v.running_systems) (finish s bodies p.0 v.run) w p.2 in
    let d = runs-longer false (m == n) (started h n) (finished h n) r in
    subst (λ x. IsThere n x.running_systems) (sym q.2) (there-without n m v.running_systems (λ same. false≢true (sym d.0 ∙ eq-eqb m n same)) (before (go d.1)))
  where
    go : (false ≡ true) ⊎ ((started h n && not (finished h n)) ≡ true) → runs h n ≡ true
    go (inl bad) = absurd (false≢true bad)
    go (inr more) = more
listed-step s bodies (Sync k) h v w n e before r =
    let p = provided-Some (can_sync s k v.run) (record { run = after_sync s k v.run; running_systems = v.running_systems }) w e in
    subst (λ x. IsThere n x.running_systems) p.1 (before r)

-- each system that runs in a history is there among the running systems
pub listed : (s : Schedule) (bodies : List BodyMeaning) (start : State) (h : List Step) (w : Interleaved) (n : ℕ)
    → interleaved s bodies start h ≡ Some w → runs h n ≡ true → IsThere n w.running_systems
listed s bodies start [] w n e r = absurd (false≢true r)
listed s bodies start (step ∷ h) w n e r =
    let p = then-parts (interleaved s bodies start h) (interleaved_step s bodies step) w e in
    listed-step s bodies step h p.0 w n p.2 (listed s bodies start h p.0 n p.1) r

-- with running systems a run state lacks for the same cause
lacks-with : (ps : List RunningSystem) (o : Option RunState) (cause : Option Cause) → LacksFor o cause → LacksFor (with_running_systems ps o) cause
lacks-with ps None cause h = (λ e. h.0 refl, λ e. refl)
lacks-with ps (Some run) cause h = (λ e. absurd (let f = e in cc), λ e. absurd (let f = h.1 e in cc))

-- the finish of a system that is there lacks for its cause
lacks-finish : (s : Schedule) (bodies : List BodyMeaning) (ps : List RunningSystem) (run : RunState) (o : Option RunningSystem) (p : RunningSystem) → o ≡ Some p
    → LacksFor (option_and_then (λ p. with_running_systems ps (finish s bodies p run)) o) (cause_of_running s bodies o run)
lacks-finish s bodies ps run None p e = absurd (let f = e in cc)
lacks-finish s bodies ps run (Some q) p e = lacks-with ps (finish s bodies q run) (cause_of_finish s bodies q run) (lacks-finish_with s (body_of bodies q.system q.shown) q run)

-- an interleaved step that may come lacks for its cause
lacks-interleaved_step : (s : Schedule) (bodies : List BodyMeaning) (step : Step) (w : Interleaved)
    → ((n : ℕ) → step ≡ Finish n → IsThere n w.running_systems) → LacksFor (interleaved_step s bodies step w) (interleaved_cause_of s bodies step w)
lacks-interleaved_step s bodies (Cond c answer) w there = lacks-provided (has_tick w.run.state) (record { run = after_condition s c w.run; running_systems = w.running_systems }) NoTick
lacks-interleaved_step s bodies (Start n) w there = lacks-start w.run (record { run = after_start s n w.run; running_systems = w.running_systems ++ started_system s n w.run ∷ [] })
lacks-interleaved_step s bodies (Skip n) w there = lacks-Some w
lacks-interleaved_step s bodies (Finish n) w there =
    lacks-finish s bodies (without_system n w.running_systems) w.run (running_system n w.running_systems) (there n refl).0 (there n refl).1
lacks-interleaved_step s bodies (Sync k) w there = lacks-sync s k w.run (record { run = after_sync s k w.run; running_systems = w.running_systems })

-- an interleaved meaning of a lawful list lacks exactly where it meets a cause
pub lacks-interleaved : (s : Schedule) (bodies : List BodyMeaning) (start : State) (h : List Step) → IsLawful s h → LacksFor (interleaved s bodies start h) (interleaved_cause s bodies start h)
lacks-interleaved s bodies start [] lawful = lacks-with [] (begin_run s start) (cause_of_opening s start) (lacks-opening s start (after_opening s start))
lacks-interleaved s bodies start (step ∷ h) lawful =
    lacks-then (interleaved s bodies start h) (interleaved_step s bodies step) (interleaved_cause s bodies start h) (interleaved_cause_at s bodies step) refl
    (lacks-interleaved s bodies start h lawful.1)
    (λ w e. lacks-interleaved_step s bodies step w (λ n same. listed s bodies start h w n e (runs_at n (subst (May s h) same lawful.0))))
  where
    runs_at : (n : ℕ) → May s h (Finish n) → runs h n ≡ true
    runs_at n may = may.running

-- both
pub causes-exact : (s : Schedule) (bodies : List BodyMeaning) (start : State) (h : List Step) → LacksFor (serial s bodies start h) (serial_cause s bodies start h)
    × (IsLawful s h → LacksFor (interleaved s bodies start h) (interleaved_cause s bodies start h))
causes-exact s bodies start h = (lacks-serial s bodies start h, lacks-interleaved s bodies start h)
