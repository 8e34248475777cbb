-- The run state of an interleaved run, once all running systems have finished, is that of one thread.
use Rattle.std.proofs.Common.{ℕ, Bool, true, false, ◌≡◌, ◌≢◌, List, [], ◌∷◌, ◌++◌, Option, Some, None, option_and_then, option_map, refl, sym, ap, ◌∙◌, append-nil}
use Rattle.std.proofs.lemmas.Bool.{both_ways}
use Rattle.model.specs.declared.steps.Step.{Step}
use Rattle.model.specs.declared.steps.Step.TheVariants.{Cond, Start, Skip, Finish, Sync}
use Rattle.model.specs.Lists.{IsIn, provided}
use Rattle.model.specs.state.State.{State}
use Rattle.model.specs.steps.Schedule.{Schedule, params_of, access_of}
use Rattle.model.specs.steps.Lawful.{runs, NoneRuns, sets_at, MayStart, MayAsk, May, IsLawful}
use Rattle.model.specs.shown.Outcome.{BodyMeaning}
use Rattle.model.specs.runs.RunState.{RunState, RunningSystem, begin_run, has_tick, can_start, can_sync, started_system, after_start, finish, asked_of, after_condition, after_sync}
use Rattle.model.specs.runs.Meaning.{Interleaved, running_system, without_system, with_running_systems, interleaved_step, interleaved, serial_step, serial, HasTrueSets}
use Rattle.model.specs.runs.Laws.{InterleavedIsSerial, SameIsShown}
use Rattle.model.proofs.lists.Lists.{option_and_then-same, option_and_then-assoc, option_and_then-Some}
use Rattle.model.proofs.serial.Conflicts.{ApartBy}
use Rattle.model.proofs.order.Histories.{idle, idle_at_end}
use Rattle.model.proofs.serial.Overlays.{has_tick-overlaid, started_system-overlaid, after_start-overlaid, can_finish-after_start, after_condition-overlaid, can_finish-after_condition, asked_of-overlaid}
use Rattle.model.proofs.serial.Settling.{settle, IsActBeside, finish-act, finish-view, settle-without_system, settle-act, settle-view}
use Rattle.model.proofs.serial.Holding.{Holds, none_running, apart_start, holds}
use Rattle.model.proofs.serial.There.{sets_before}

-- ---- words

-- an interleaved run once all running systems have finished
abbrev pub settled : Schedule → List BodyMeaning → Interleaved → Option RunState
settled s bodies w = settle s bodies w.running_systems w.run

-- a start, where it is provided
abbrev start_act : Schedule → ℕ → RunState → Option RunState
start_act s n run = provided (can_start run) (after_start s n run)

-- a condition, where it is provided
abbrev cond_act : Schedule → ℕ → RunState → Option RunState
cond_act s c run = provided (has_tick run.state) (after_condition s c run)

-- ---- a start and a condition beside a running system

-- a start is beside another system that doesn't meet it
start_beside : (there : Option (List ℕ)) (s : Schedule) (bodies : List BodyMeaning) (n : ℕ) (p : RunningSystem) → p.system ≢ n →
    ApartBy there (params_of s p.system) (params_of s n) → IsActBeside there s bodies (start_act s n) (λ run. started_system s n run ∷ []) p
start_beside there s bodies n p d a = record {
  swaps = λ run f. finish-act s bodies p can_start (after_start s n) run
      (λ o. has_tick-overlaid s p o run) (λ o. can_finish-after_start s n p.system o run) (λ o. after_start-overlaid there s n p o run d a);
  same = λ run after f e. ap (λ (x : RunningSystem). x ∷ []) (finish-view (started_system s n) s bodies p run after (λ o. started_system-overlaid there s n p o run d a f) e);
}

-- a condition is beside a system that doesn't meet what it reads
cond_beside : (there : Option (List ℕ)) (s : Schedule) (bodies : List BodyMeaning) (c : ℕ) (p : RunningSystem) → ApartBy there (params_of s p.system) (access_of s c) →
    IsActBeside there s bodies (cond_act s c) (λ run. []) p
cond_beside there s bodies c p a = record {
  swaps = λ run f. finish-act s bodies p (λ r. has_tick r.state) (after_condition s c) run
      (λ o. has_tick-overlaid s p o run) (λ o. can_finish-after_condition s c p.system o run) (λ o. after_condition-overlaid there s c p o run a);
  same = λ run after f e. refl;
}

-- a running system is apart from a condition that may be asked
apart_cond : (s : Schedule) (h : List Step) (c : ℕ) (w : Interleaved) → MayAsk s h c → Holds s h w → (p : RunningSystem) → IsIn p w.running_systems →
    ApartBy (sets_at s h) (params_of s p.system) (access_of s c)
apart_cond s h c w may k p i e = may.apart (p.system, k.alive p i, e)

-- ---- options

-- an interleaved run that is provided, settled
settled-provided : (s : Schedule) (bodies : List BodyMeaning) (test : Bool) (run : RunState) (ps : List RunningSystem) →
    option_and_then (settled s bodies) (provided test (record { run = run; running_systems = ps })) ≡ option_and_then (settle s bodies ps) (provided test run)
settled-provided s bodies true run ps = refl
settled-provided s bodies false run ps = refl

-- a run state with running systems, settled
settled-with_running_systems : (s : Schedule) (bodies : List BodyMeaning) (ps : List RunningSystem) (o : Option RunState) →
    option_and_then (settled s bodies) (with_running_systems ps o) ≡ option_and_then (settle s bodies ps) o
settled-with_running_systems s bodies ps None = refl
settled-with_running_systems s bodies ps (Some run) = refl

-- nothing settles to what is there
option_and_then-settle_none : (s : Schedule) (bodies : List BodyMeaning) (o : Option RunState) → option_and_then (settle s bodies []) o ≡ o
option_and_then-settle_none s bodies None = refl
option_and_then-settle_none s bodies (Some run) = refl

-- one system settles by its finish
option_and_then-settle_one : (s : Schedule) (bodies : List BodyMeaning) (p : RunningSystem) (o : Option RunState) →
    option_and_then (settle s bodies (p ∷ [])) o ≡ option_and_then (finish s bodies p) o
option_and_then-settle_one s bodies p o =
    option_and_then-same (settle s bodies (p ∷ [])) (finish s bodies p) o (λ r e. option_and_then-settle_none s bodies (finish s bodies p r))

-- ---- each step

-- a condition
settles_cond : (s : Schedule) (bodies : List BodyMeaning) (h : List Step) (c : ℕ) (answer : Bool) (w : Interleaved) → MayAsk s h c → Holds s h w →
    option_and_then (settled s bodies) (interleaved_step s bodies (Cond c answer) w) ≡ option_and_then (serial_step s bodies (Cond c answer)) (settled s bodies w)
settles_cond s bodies h c answer w may k =
    settled-provided s bodies (has_tick w.run.state) (after_condition s c w.run) w.running_systems
    ∙ ap (λ ps. option_and_then (settle s bodies ps) (cond_act s c w.run)) (sym (append-nil w.running_systems))
    ∙ sym (settle-act (sets_at s h) s bodies (cond_act s c) (λ run. []) w.running_systems w.run (λ p i. cond_beside (sets_at s h) s bodies c p (apart_cond s h c w may k p i)) k.fit)
    ∙ option_and_then-same (λ r. option_and_then (settle s bodies []) (cond_act s c r)) (cond_act s c) (settled s bodies w)
    (λ r e. option_and_then-settle_none s bodies (cond_act s c r))

-- a start
settles_start : (s : Schedule) (bodies : List BodyMeaning) (h : List Step) (n : ℕ) (w : Interleaved) → MayStart s h n → Holds s h w →
    option_and_then (settled s bodies) (interleaved_step s bodies (Start n) w) ≡ option_and_then (serial_step s bodies (Start n)) (settled s bodies w)
settles_start s bodies h n w may k =
    settled-provided s bodies (can_start w.run) (after_start s n w.run) (w.running_systems ++ started_system s n w.run ∷ [])
    ∙ sym (settle-act (sets_at s h) s bodies (start_act s n) (λ run. started_system s n run ∷ []) w.running_systems w.run
    (λ p i. start_beside (sets_at s h) s bodies n p (apart_start s h n w may k p i).0 (apart_start s h n w may k p i).1) k.fit)
    ∙ option_and_then-same (λ r. option_and_then (settle s bodies (started_system s n r ∷ [])) (start_act s n r)) (serial_step s bodies (Start n)) (settled s bodies w)
    (λ r e. option_and_then-settle_one s bodies (started_system s n r) (start_act s n r))

-- a finish
settles_finish : (s : Schedule) (bodies : List BodyMeaning) (h : List Step) (n : ℕ) (w : Interleaved) → runs h n ≡ true → Holds s h w →
    option_and_then (settled s bodies) (interleaved_step s bodies (Finish n) w) ≡ option_and_then (serial_step s bodies (Finish n)) (settled s bodies w)
settles_finish s bodies h n w r k =
    let f : (p : RunningSystem) × (running_system n w.running_systems ≡ Some p) = k.listed n r in
    ap (λ o. option_and_then (settled s bodies) (option_and_then (λ p. with_running_systems (without_system n w.running_systems) (finish s bodies p w.run)) o)) f.1
    ∙ settled-with_running_systems s bodies (without_system n w.running_systems) (finish s bodies f.0 w.run)
    ∙ sym (settle-without_system (sets_at s h) s bodies n w.running_systems f.0 w.run k.beside k.fit f.1)
    ∙ sym (option_and_then-Some (settled s bodies w))

-- a sync point, where nothing runs
settles_sync_idle : (s : Schedule) (bodies : List BodyMeaning) (k : ℕ) (run : RunState) (ps : List RunningSystem) → ps ≡ [] →
    option_and_then (settle s bodies ps) (provided (can_sync s k run) (after_sync s k run))
    ≡ option_and_then (serial_step s bodies (Sync k)) (settle s bodies ps run)
settles_sync_idle s bodies k run [] e = option_and_then-settle_none s bodies (provided (can_sync s k run) (after_sync s k run))
settles_sync_idle s bodies k run (p ∷ ps) e = absurd (cc)

-- a step that may come
settles_step : (s : Schedule) (bodies : List BodyMeaning) (h : List Step) (step : Step) (w : Interleaved) → IsLawful s h → May s h step → Holds s h w →
    option_and_then (settled s bodies) (interleaved_step s bodies step w) ≡ option_and_then (serial_step s bodies step) (settled s bodies w)
settles_step s bodies h (Cond c answer) w lawful may k = settles_cond s bodies h c answer w may k
settles_step s bodies h (Start n) w lawful may k = settles_start s bodies h n w may k
settles_step s bodies h (Skip n) w lawful may k = sym (option_and_then-Some (settled s bodies w))
settles_step s bodies h (Finish n) w lawful may k = settles_finish s bodies h n w may.running k
settles_step s bodies h (Sync j) w lawful may k =
    settled-provided s bodies (can_sync s j w.run) (after_sync s j w.run) w.running_systems
    ∙ settles_sync_idle s bodies j w.run w.running_systems (none_running w.running_systems (λ p i. idle s h j p.system lawful may (k.alive p i)))

-- ---- histories

-- a lawful history whose kind sets are true, interleaved and settled, is what one thread makes of it
pub settles : (s : Schedule) (bodies : List BodyMeaning) (start : State) (h : List Step) → IsLawful s h → HasTrueSets s bodies start h →
    option_and_then (settled s bodies) (interleaved s bodies start h) ≡ serial s bodies start h
settles s bodies start [] lawful sets =
    settled-with_running_systems s bodies [] (begin_run s start) ∙ option_and_then-settle_none s bodies (begin_run s start)
settles s bodies start (step ∷ h) lawful sets =
    option_and_then-assoc (interleaved_step s bodies step) (settled s bodies) (interleaved s bodies start h)
    ∙ option_and_then-same (λ w. option_and_then (settled s bodies) (interleaved_step s bodies step w)) (λ w. option_and_then (serial_step s bodies step) (settled s bodies w))
    (interleaved s bodies start h) (λ w e. settles_step s bodies h step w lawful.1 lawful.0 (holds s bodies start h w lawful.1 (sets_before s bodies start step h sets) e))
    ∙ sym (option_and_then-assoc (settled s bodies) (serial_step s bodies step) (interleaved s bodies start h))
    ∙ ap (option_and_then (serial_step s bodies step)) (settles s bodies start h lawful.1 (sets_before s bodies start step h sets))

-- an option changed where each value is changed alike
option_map-same : {A B : Type 0} (f : A → Option B) (g : A → B) (o : Option A) → ((x : A) → o ≡ Some x → f x ≡ Some (g x)) → option_map g o ≡ option_and_then f o
option_map-same f g None h = refl
option_map-same f g (Some x) h = sym (h x refl)

-- where nothing runs there are no running systems
pub idle_none : (s : Schedule) (bodies : List BodyMeaning) (start : State) (h : List Step) (w : Interleaved) → IsLawful s h → HasTrueSets s bodies start h → NoneRuns h →
    interleaved s bodies start h ≡ Some w → w.running_systems ≡ []
idle_none s bodies start h w lawful sets none e =
    none_running w.running_systems (λ p i. both_ways (runs h p.system) (none p.system) ((holds s bodies start h w lawful sets e).alive p i))

-- where nothing runs, interleaved is as on one thread
pub interleaved_idle : (s : Schedule) (bodies : List BodyMeaning) (start : State) (h : List Step) → IsLawful s h → HasTrueSets s bodies start h → NoneRuns h →
    option_map (λ w. w.run) (interleaved s bodies start h) ≡ serial s bodies start h
interleaved_idle s bodies start h lawful sets none =
    option_map-same (settled s bodies) (λ w. w.run) (interleaved s bodies start h)
    (λ w e. ap (λ ps. settle s bodies ps w.run) (idle_none s bodies start h w lawful sets none e))
    ∙ settles s bodies start h lawful sets

-- so it is a run of one thread with no running systems
pub idle_same : (s : Schedule) (bodies : List BodyMeaning) (start : State) (h : List Step) → IsLawful s h → HasTrueSets s bodies start h → NoneRuns h →
    interleaved s bodies start h ≡ with_running_systems [] (serial s bodies start h)
idle_same s bodies start h lawful sets none = go (interleaved s bodies start h) refl ∙ ap (with_running_systems []) (interleaved_idle s bodies start h lawful sets none)
  where
    go : (o : Option Interleaved) → interleaved s bodies start h ≡ o → o ≡ with_running_systems [] (option_map (λ x. x.run) o)
    go None e = refl
    go (Some x) e = ap (λ ps. Some (record { run = x.run; running_systems = ps })) (idle_none s bodies start h x lawful sets none e)

-- a complete list, interleaved, is that of one thread
pub interleaved_serial : InterleavedIsSerial
interleaved_serial s bodies start h lawful complete sets = interleaved_idle s bodies start h lawful sets (idle_at_end s h lawful complete)

-- what a start shows and a condition is asked about is the same
pub same_shown : SameIsShown
same_shown s bodies start h w run lawful sets e f =
    let k : Holds s h w = holds s bodies start h w lawful sets e in
    let g : settle s bodies w.running_systems w.run ≡ Some run = sym (ap (option_and_then (settled s bodies)) e) ∙ settles s bodies start h lawful sets ∙ f in (
      (λ n may. sym (settle-view (sets_at s h) (started_system s n) s bodies w.running_systems w.run run
          (λ p i r o fit. started_system-overlaid (sets_at s h) s n p o r (apart_start s h n w may k p i).0 (apart_start s h n w may k p i).1 fit) k.fit g)),
      (λ c answer may. sym (settle-view (sets_at s h) (asked_of s c) s bodies w.running_systems w.run run
          (λ p i r o fit. asked_of-overlaid (sets_at s h) s c p o r (apart_cond s h c w may k p i) fit) k.fit g)),
    )
