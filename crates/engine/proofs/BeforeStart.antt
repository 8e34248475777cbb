-- What a system that has not begun has deferred: nothing.
use Rattle.std.proofs.Common.{ℕ, Bool, true, false, ◌≡◌, ◌==◌, ◌||◌, cond, List, [], ◌∷◌, ◌++◌, Some, Result, Ok, Err, refl, sym, ◌∙◌, ap, subst}
use Rattle.std.proofs.lemmas.Bool.{eq-eqb, false≢true, false_from_ne_true, ne_eqb}
use Rattle.model.specs.declared.steps.Step.{Step}
use Rattle.model.specs.declared.steps.Step.TheVariants.{Cond, Start, Skip, Finish, Sync}
use Rattle.model.specs.Lists.{provided}
use Rattle.model.specs.state.State.{State}
use Rattle.model.specs.shown.Outcome.{BodyMeaning, Outcome}
use Rattle.model.specs.steps.Schedule.{Schedule, level_of}
use Rattle.model.specs.steps.Lawful.{IsLawful, May, begun, started, skipped}
use Rattle.model.specs.runs.RunState.{RunState, RunningSystem, body_of, can_finish, can_open, can_start, can_sync, can_ask, finish, finish_with, overlaid, started_system, after_condition, after_start, after_sync, after_opening, after_grant, after_commands, begin_run}
use Rattle.model.specs.runs.Meaning.{Interleaved, interleaved, interleaved_step, running_system, without_system, with_running_systems, serial, serial_step, HasTrueSets}
use Rattle.model.proofs.faults.Causes.{then-parts, with_running_systems-parts}
use Rattle.model.proofs.lists.Lists.{provided-Some}
use Rattle.model.proofs.order.Histories.{begun_from_runs, begun_later}
use Rattle.model.proofs.serial.Holding.{holds, system_of-started}
use Rattle.model.proofs.serial.There.{sets_before}
use Rattle.model.proofs.serial.Settling.{running_system-IsIn}

-- after a history
abbrev IsFresh : List Step → RunState → Type 0
IsFresh h run = (n : ℕ) → begun h n ≡ false → run.buffers n ≡ []

fresh-before : (step : Step) (h : List Step) (n : ℕ) → begun (step ∷ h) n ≡ false → begun h n ≡ false
fresh-before step h n e = false_from_ne_true (begun h n) (λ t. false≢true (sym e ∙ begun_later step h n t))

started-begun : (h : List Step) (m n : ℕ) → m ≡ n → begun (Start m ∷ h) n ≡ true
started-begun h m n same = ap (λ t. (t || started h n) || skipped h n) (eq-eqb m n same)

-- ---- each step

-- nothing is left at the opening
fresh-opening : (s : Schedule) (start : State) (n : ℕ) → (after_opening s start).buffers n ≡ []
unfolding after_opening after_grant
fresh-opening s start n = refl

fresh-condition : (s : Schedule) (c : ℕ) (answer : Bool) (h : List Step) (run : RunState) → IsFresh h run → IsFresh (Cond c answer ∷ h) (after_condition s c run)
unfolding after_condition
fresh-condition s c answer h run fresh n e = fresh n (fresh-before (Cond c answer) h n e)

fresh-start : (s : Schedule) (m : ℕ) (h : List Step) (run : RunState) → IsFresh h run → IsFresh (Start m ∷ h) (after_start s m run)
unfolding after_start
fresh-start s m h run fresh n e = fresh n (fresh-before (Start m) h n e)

fresh-sync : (s : Schedule) (k : ℕ) (h : List Step) (run : RunState) → IsFresh h run → IsFresh (Sync k ∷ h) (after_sync s k run)
unfolding after_sync after_grant after_commands
fresh-sync s k h run fresh n e = go (level_of s n == k)
  where
    go : (b : Bool) → cond b [] (run.buffers n) ≡ []
    go true = refl
    go false = fresh n (fresh-before (Sync k) h n e)

-- another buffer than that of who finishes stays
finish-other : (s : Schedule) (bodies : List BodyMeaning) (p : RunningSystem) (run after : RunState) (n : ℕ) → (p.system ≡ n → ⊥) → finish s bodies p run ≡ Some after → after.buffers n ≡ run.buffers n
unfolding overlaid
finish-other s bodies p run after n other e = go (body_of bodies p.system p.shown) e
  where
    go : (answer : Result Outcome ℕ) → finish_with s answer p run ≡ Some after → after.buffers n ≡ run.buffers n
    go (Err k) f = absurd (let h = f in cc)
    go (Ok outcome) f =
        let done = provided-Some (can_finish s p.system outcome run) (overlaid s p outcome run) after f in
        ap (λ (r : RunState). r.buffers n) (sym done.1)
        ∙ ap (λ b. cond b outcome.commands (run.buffers n)) (ne_eqb n p.system (λ same. other (sym same)))

module _ (s : Schedule) (bodies : List BodyMeaning) (start : State) where
  -- interleaved
  pub interleaved_fresh : (h : List Step) (w : Interleaved) → IsLawful s h → HasTrueSets s bodies start h → interleaved s bodies start h ≡ Some w → IsFresh h w.run
  interleaved_fresh [] w lawful sets e = λ n b.
      let p = with_running_systems-parts [] (begin_run s start) w e in
      let q = provided-Some (can_open s start) (after_opening s start) p.0 p.1 in
      ap (λ (x : Interleaved). x.run.buffers n) p.2 ∙ ap (λ (r : RunState). r.buffers n) (sym q.1) ∙ fresh-opening s start n
  interleaved_fresh (step ∷ h) w lawful sets e =
      let p = then-parts (interleaved s bodies start h) (interleaved_step s bodies step) w e in
      go step lawful.0 p.0 p.1 p.2 (interleaved_fresh h p.0 lawful.1 (sets_before s bodies start step h sets) p.1)
    where
      go : (step : Step) → May s h step → (v : Interleaved) → interleaved s bodies start h ≡ Some v → interleaved_step s bodies step v ≡ Some w → IsFresh h v.run → IsFresh (step ∷ h) w.run
      go (Cond c answer) may v d f fresh =
          let p = provided-Some (can_ask v.run) (record { run = after_condition s c v.run; running_systems = v.running_systems }) w f in
          subst (λ (x : Interleaved). IsFresh (Cond c answer ∷ h) x.run) p.1 (fresh-condition s c answer h v.run fresh)
      go (Start m) may v d f fresh =
          let p = provided-Some (can_start v.run) (record { run = after_start s m v.run; running_systems = v.running_systems ++ started_system s m v.run ∷ [] }) w f in
          subst (λ (x : Interleaved). IsFresh (Start m ∷ h) x.run) p.1 (fresh-start s m h v.run fresh)
      go (Skip m) may v d f fresh = let same : v ≡ w = cc in subst (λ (x : Interleaved). IsFresh (Skip m ∷ h) x.run) same (λ n b. fresh n (fresh-before (Skip m) h n b))
      go (Finish m) may v d f fresh = λ n b.
          let p = then-parts (running_system m v.running_systems) (λ p. with_running_systems (without_system m v.running_systems) (finish s bodies p v.run)) w f in
          let q = with_running_systems-parts (without_system m v.running_systems) (finish s bodies p.0 v.run) w p.2 in
          let before = fresh-before (Finish m) h n b in
          let alive = (holds s bodies start h v lawful.1 (sets_before s bodies start step h sets) d).alive p.0 (running_system-IsIn m v.running_systems p.0 p.1).0 in
          ap (λ (x : Interleaved). x.run.buffers n) q.2
          ∙ finish-other s bodies p.0 v.run q.0 n (λ same. false≢true (sym before ∙ ap (begun h) (sym same) ∙ begun_from_runs h p.0.system alive)) q.1
          ∙ fresh n before
      go (Sync k) may v d f fresh =
          let p = provided-Some (can_sync s k v.run) (record { run = after_sync s k v.run; running_systems = v.running_systems }) w f in
          subst (λ (x : Interleaved). IsFresh (Sync k ∷ h) x.run) p.1 (fresh-sync s k h v.run fresh)

  -- on one thread
  pub serial_fresh : (h : List Step) (run : RunState) → serial s bodies start h ≡ Some run → IsFresh h run
  serial_fresh [] run e = λ n b.
      let q = provided-Some (can_open s start) (after_opening s start) run e in
      ap (λ (r : RunState). r.buffers n) (sym q.1) ∙ fresh-opening s start n
  serial_fresh (step ∷ h) run e =
      let p = then-parts (serial s bodies start h) (serial_step s bodies step) run e in
      go step p.0 p.2 (serial_fresh h p.0 p.1)
    where
      go : (step : Step) (v : RunState) → serial_step s bodies step v ≡ Some run → IsFresh h v → IsFresh (step ∷ h) run
      go (Cond c answer) v f fresh =
          let p = provided-Some (can_ask v) (after_condition s c v) run f in
          subst (IsFresh (Cond c answer ∷ h)) p.1 (fresh-condition s c answer h v fresh)
      go (Start m) v f fresh = λ n b.
          let p = then-parts (provided (can_start v) (after_start s m v)) (finish s bodies (started_system s m v)) run f in
          let q = provided-Some (can_start v) (after_start s m v) p.0 p.1 in
          finish-other s bodies (started_system s m v) p.0 run n (λ same. false≢true (sym b ∙ started-begun h m n (sym (system_of-started s m v) ∙ same))) p.2
          ∙ ap (λ (r : RunState). r.buffers n) (sym q.1) ∙ fresh-start s m h v fresh n b
      go (Skip m) v f fresh = let same : v ≡ run = cc in subst (IsFresh (Skip m ∷ h)) same (λ n b. fresh n (fresh-before (Skip m) h n b))
      go (Finish m) v f fresh = let same : v ≡ run = cc in subst (IsFresh (Finish m ∷ h)) same (λ n b. fresh n (fresh-before (Finish m) h n b))
      go (Sync k) v f fresh =
          let p = provided-Some (can_sync s k v) (after_sync s k v) run f in
          subst (IsFresh (Sync k ∷ h)) p.1 (fresh-sync s k h v fresh)
