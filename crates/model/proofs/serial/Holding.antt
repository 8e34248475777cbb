-- What holds of the running systems of an interleaved run after a lawful history, and that each step keeps it.
use Rattle.std.proofs.Common.{ℕ, Bool, true, false, cond, ◌==◌, ◌≡◌, ◌≢◌, List, [], ◌∷◌, ◌++◌, Option, Some, None, refl, sym, ap, ◌∙◌, subst, inl, inr, ⊎_elim}
use Rattle.std.proofs.lemmas.Bool.{eqb-true, eq-eqb, ne_eqb, or_right, or_from, both_ways}
use Rattle.std.proofs.lemmas.Option.{option_and_then_some, same_Some}
use Rattle.model.specs.declared.steps.Step.{Step}
use Rattle.model.specs.declared.steps.Step.TheVariants.{Cond, Start, Skip, Finish, Sync}
use Rattle.model.specs.Lists.{IsIn}
use Rattle.model.specs.state.State.{State}
use Rattle.model.specs.steps.Schedule.{Schedule, params_of}
use Rattle.model.specs.steps.Lawful.{started, finished, runs, begun, sets_at, MayStart, MaySync, May, IsLawful}
use Rattle.model.specs.shown.Outcome.{BodyMeaning}
use Rattle.model.specs.runs.RunState.{RunState, RunningSystem, begin_run, has_tick, can_start, can_sync, started_system, after_start, finish, after_condition, after_sync}
use Rattle.model.specs.runs.Meaning.{Interleaved, running_system, without_system, with_running_systems, interleaved_step, interleaved, HasTrueSets}
use Rattle.model.proofs.lists.Lists.{IsIn-append, provided-Some}
use Rattle.model.proofs.serial.Conflicts.{ApartBy}
use Rattle.model.proofs.order.Histories.{runs_parts, runs_from, begun_from_runs, runs-start, runs-finish, start_runs, idle}
use Rattle.model.proofs.serial.Overlays.{Fits, fits-started_system, fits-after_start, fits-after_condition}
use Rattle.model.proofs.serial.Settling.{IsBeside, AreBeside, AllFit, fits-finish}
use Rattle.model.proofs.serial.Within.{AllAmong}
use Rattle.model.proofs.serial.There.{sets_before, with_running_systems-Some, all_among}

-- each running system runs in the history, each that runs in it is there, each fits, and each two are beside each other, by the kind sets
-- recorded last
pub record Holds (s : Schedule) (h : List Step) (w : Interleaved) : Type 0 where
  pub alive : (p : RunningSystem) → IsIn p w.running_systems → runs h p.system ≡ true
  pub listed : (n : ℕ) → runs h n ≡ true → (p : RunningSystem) × (running_system n w.running_systems ≡ Some p)
  pub fit : AllFit (sets_at s h) s w.running_systems w.run
  pub beside : AreBeside (sets_at s h) s w.running_systems

-- ---- one more running system

-- what is found is found with one more
running_system-append : (n : ℕ) (ps : List RunningSystem) (x p : RunningSystem) → running_system n ps ≡ Some p → running_system n (ps ++ x ∷ []) ≡ Some p
running_system-append n [] x p h = absurd (cc)
running_system-append n (q ∷ ps) x p h = go (q.system == n) h (running_system-append n ps x p)
  where
    go : (b : Bool) → cond b (Some q) (running_system n ps) ≡ Some p → (running_system n ps ≡ Some p → running_system n (ps ++ x ∷ []) ≡ Some p) →
        cond b (Some q) (running_system n (ps ++ x ∷ [])) ≡ Some p
    go true e f = e
    go false e f = f e

-- the one more is found, or one before it
running_system-append_new : (n : ℕ) (ps : List RunningSystem) (x : RunningSystem) → x.system ≡ n → (p : RunningSystem) × (running_system n (ps ++ x ∷ []) ≡ Some p)
running_system-append_new n [] x e = (x, ap (λ b. cond b (Some x) None) (eq-eqb x.system n e))
running_system-append_new n (q ∷ ps) x e = go (q.system == n) (running_system-append_new n ps x e)
  where
    go : (b : Bool) → (p : RunningSystem) × (running_system n (ps ++ x ∷ []) ≡ Some p) →
        (p : RunningSystem) × (cond b (Some q) (running_system n (ps ++ x ∷ [])) ≡ Some p)
    go true f = (q, refl)
    go false f = f

-- one more that is beside all
are_beside-append : (there : Option (List ℕ)) (s : Schedule) (ps : List RunningSystem) (x : RunningSystem) → AreBeside there s ps → ((p : RunningSystem) → IsIn p ps → IsBeside there s p x) → AreBeside there s (ps ++ x ∷ [])
are_beside-append there s [] x b h = ((λ q i. absurd i), tt)
are_beside-append there s (p ∷ ps) x b h =
    ((λ q i. ⊎_elim (λ j. b.0 q j) (λ j. go q j) (IsIn-append q ps (x ∷ []) i)), are_beside-append there s ps x b.1 (λ q i. h q (inr i)))
  where
    go : (q : RunningSystem) → IsIn q (x ∷ []) → IsBeside there s p q
    go q (inl e) = subst (IsBeside there s p) (sym e) (h p (inl refl))
    go q (inr e) = absurd e

-- ---- one less

-- the others were there
without_system-IsIn : (n : ℕ) (ps : List RunningSystem) (q : RunningSystem) → IsIn q (without_system n ps) → IsIn q ps
without_system-IsIn n [] q i = i
without_system-IsIn n (p ∷ ps) q i = go (p.system == n) i (without_system-IsIn n ps q)
  where
    go : (b : Bool) → IsIn q (cond b ps (p ∷ without_system n ps)) → (IsIn q (without_system n ps) → IsIn q ps) → IsIn q (p ∷ ps)
    go true i f = inr i
    go false (inl e) f = inl e
    go false (inr i) f = inr (f i)

-- they are others
without_system-other : (there : Option (List ℕ)) (s : Schedule) (n : ℕ) (ps : List RunningSystem) (q : RunningSystem) → AreBeside there s ps → IsIn q (without_system n ps) → q.system ≢ n
without_system-other there s n [] q b i = absurd i
without_system-other there s n (p ∷ ps) q b i = go (p.system == n) refl i (without_system-other there s n ps q b.1)
  where
    go : (t : Bool) → (p.system == n) ≡ t → IsIn q (cond t ps (p ∷ without_system n ps)) → (IsIn q (without_system n ps) → q.system ≢ n) → q.system ≢ n
    go true e i f same = (b.0 q i).other (eqb-true p.system n e ∙ sym same)
    go false e (inl d) f same = both_ways (p.system == n) e (eq-eqb p.system n (ap (λ (r : RunningSystem). r.system) (sym d) ∙ same))
    go false e (inr i) f same = f i same

-- they are beside each other
are_beside-without : (there : Option (List ℕ)) (s : Schedule) (n : ℕ) (ps : List RunningSystem) → AreBeside there s ps → AreBeside there s (without_system n ps)
are_beside-without there s n [] b = tt
are_beside-without there s n (p ∷ ps) b = go (p.system == n) (are_beside-without there s n ps b.1)
  where
    go : (t : Bool) → AreBeside there s (without_system n ps) → AreBeside there s (cond t ps (p ∷ without_system n ps))
    go true f = b.1
    go false f = ((λ q i. b.0 q (without_system-IsIn n ps q i)), f)

-- another is still found
running_system-without : (m n : ℕ) (ps : List RunningSystem) → (n ≡ m → ⊥) → running_system m (without_system n ps) ≡ running_system m ps
running_system-without m n [] d = refl
running_system-without m n (p ∷ ps) d = go (p.system == n) refl (running_system-without m n ps d)
  where
    go : (t : Bool) → (p.system == n) ≡ t → running_system m (without_system n ps) ≡ running_system m ps →
        running_system m (cond t ps (p ∷ without_system n ps)) ≡ cond (p.system == m) (Some p) (running_system m ps)
    go true e r = sym (ap (λ b. cond b (Some p) (running_system m ps)) (ne_eqb p.system m (λ same. d (sym (eqb-true p.system n e) ∙ same))))
    go false e r = ap (cond (p.system == m) (Some p)) r

-- ---- each step

-- what runs still runs after a start
runs_after-start : (h : List Step) (n m : ℕ) → runs h m ≡ true → runs (Start n ∷ h) m ≡ true
runs_after-start h n m r = runs_from (Start n ∷ h) m (or_right (n == m) (started h m) (runs_parts h m r).0) (runs_parts h m r).1

-- what runs still runs after the finish of another
runs_after-finish : (h : List Step) (n m : ℕ) → m ≢ n → runs h m ≡ true → runs (Finish n ∷ h) m ≡ true
runs_after-finish h n m d r =
    runs_from (Finish n ∷ h) m (runs_parts h m r).0 (or_from (n == m) (finished h m) (ne_eqb n m (λ e. d (sym e))) (runs_parts h m r).1)

-- the number of a system that starts
pub system_of-started : (s : Schedule) (n : ℕ) (run : RunState) → (started_system s n run).system ≡ n
unfolding started_system
system_of-started s n run = refl

-- after a condition
holds_cond : (s : Schedule) (h : List Step) (c : ℕ) (answer : Bool) (w : Interleaved) → Holds s h w →
    Holds s (Cond c answer ∷ h) (record { run = after_condition s c w.run; running_systems = w.running_systems })
holds_cond s h c answer w k = record { alive = k.alive; listed = k.listed; fit = (λ p i. fits-after_condition (sets_at s h) s p c w.run (k.fit p i)); beside = k.beside }

-- a running system is another than one that may start, and apart from it
pub apart_start : (s : Schedule) (h : List Step) (n : ℕ) (w : Interleaved) → MayStart s h n → Holds s h w → (p : RunningSystem) → IsIn p w.running_systems →
    (p.system ≢ n) × ApartBy (sets_at s h) (params_of s p.system) (params_of s n)
apart_start s h n w may k p i = (
  (λ e. both_ways (begun h n) may.free.waits (begun_from_runs h n (subst (λ m. runs h m ≡ true) e (k.alive p i)))),
  (λ c. may.apart (p.system, k.alive p i, c)),
)

-- so it is beside it as it runs
beside_start : (s : Schedule) (h : List Step) (n : ℕ) (w : Interleaved) → MayStart s h n → Holds s h w → (p : RunningSystem) → IsIn p w.running_systems →
    IsBeside (sets_at s h) s p (started_system s n w.run)
unfolding started_system
beside_start s h n w may k p i = record { other = (apart_start s h n w may k p i).0; apart = (apart_start s h n w may k p i).1 }

-- after a start
holds_start : (s : Schedule) (h : List Step) (n : ℕ) (w : Interleaved) → IsLawful s h → MayStart s h n → AllAmong (sets_at s h) w.run.state.world.slots → Holds s h w →
    Holds s (Start n ∷ h) (record { run = after_start s n w.run; running_systems = w.running_systems ++ started_system s n w.run ∷ [] })
holds_start s h n w lawful may all k = record {
  alive = λ p i. ⊎_elim (λ j. runs_after-start h n p.system (k.alive p j)) (λ j. new_alive p j) (IsIn-append p w.running_systems (started_system s n w.run ∷ []) i);
  listed = λ m r. ⊎_elim (λ e. running_system-append_new m w.running_systems (started_system s n w.run) (system_of-started s n w.run ∙ e))
      (λ q. let f : (p : RunningSystem) × (running_system m w.running_systems ≡ Some p) = k.listed m q in
      (f.0, running_system-append m w.running_systems (started_system s n w.run) f.0 f.1)) (runs-start h n m r);
  fit = λ p i. ⊎_elim (λ j. fits-after_start (sets_at s h) s p n w.run (k.fit p j)) (λ j. new_fit p j) (IsIn-append p w.running_systems (started_system s n w.run ∷ []) i);
  beside = are_beside-append (sets_at s h) s w.running_systems (started_system s n w.run) k.beside (beside_start s h n w may k);
}
  where
    new_alive : (p : RunningSystem) → IsIn p (started_system s n w.run ∷ []) → runs (Start n ∷ h) p.system ≡ true
    new_alive p (inl e) = subst (λ m. runs (Start n ∷ h) m ≡ true) (sym (ap (λ (q : RunningSystem). q.system) e ∙ system_of-started s n w.run)) (start_runs s h n lawful may.free)
    new_alive p (inr e) = absurd e

    new_fit : (p : RunningSystem) → IsIn p (started_system s n w.run ∷ []) → Fits (sets_at s h) s p (after_start s n w.run).state.world.slots
    new_fit p (inl e) = subst (λ (q : RunningSystem). Fits (sets_at s h) s q (after_start s n w.run).state.world.slots) (sym e)
        (fits-after_start (sets_at s h) s (started_system s n w.run) n w.run (fits-started_system (sets_at s h) s n w.run all))
    new_fit p (inr e) = absurd e

-- after a finish
holds_finish : (s : Schedule) (bodies : List BodyMeaning) (h : List Step) (n : ℕ) (w : Interleaved) (p : RunningSystem) (after : RunState) → Holds s h w →
    finish s bodies p w.run ≡ Some after → Holds s (Finish n ∷ h) (record { run = after; running_systems = without_system n w.running_systems })
holds_finish s bodies h n w p after k e = record {
  alive = λ q i. runs_after-finish h n q.system (without_system-other (sets_at s h) s n w.running_systems q k.beside i) (k.alive q (without_system-IsIn n w.running_systems q i));
  listed = λ m r.
      let d : (n ≡ m → ⊥) × (runs h m ≡ true) = runs-finish h n m r in
      let f : (q : RunningSystem) × (running_system m w.running_systems ≡ Some q) = k.listed m d.1 in
      (f.0, running_system-without m n w.running_systems d.0 ∙ f.1);
  fit = λ q i. fits-finish (sets_at s h) s bodies q p w.run after e (k.fit q (without_system-IsIn n w.running_systems q i));
  beside = are_beside-without (sets_at s h) s n w.running_systems k.beside;
}

-- no running system, no list
pub none_running : (ps : List RunningSystem) → ((p : RunningSystem) → IsIn p ps → ⊥) → ps ≡ []
none_running [] h = refl
none_running (p ∷ ps) h = absurd (h p (inl refl))

-- after a sync point, where nothing runs
holds_sync : (s : Schedule) (h : List Step) (k : ℕ) (w : Interleaved) → IsLawful s h → MaySync s h k → Holds s h w →
    Holds s (Sync k ∷ h) (record { run = after_sync s k w.run; running_systems = w.running_systems })
holds_sync s h k w lawful may hold = record {
  alive = hold.alive;
  listed = hold.listed;
  fit = (λ p i. absurd (idle s h k p.system lawful may (hold.alive p i)));
  beside = subst (AreBeside (sets_at s (Sync k ∷ h)) s) (sym (none_running w.running_systems (λ p i. idle s h k p.system lawful may (hold.alive p i)))) tt;
}

-- after a step that may come
holds_step : (s : Schedule) (bodies : List BodyMeaning) (h : List Step) (step : Step) (w after : Interleaved) → IsLawful s h → May s h step →
    AllAmong (sets_at s h) w.run.state.world.slots → Holds s h w → interleaved_step s bodies step w ≡ Some after → Holds s (step ∷ h) after
holds_step s bodies h (Cond c answer) w after lawful may all k e =
    subst (Holds s (Cond c answer ∷ h)) (provided-Some (has_tick w.run.state) (record { run = after_condition s c w.run; running_systems = w.running_systems }) after e).1
    (holds_cond s h c answer w k)
holds_step s bodies h (Start n) w after lawful may all k e =
    subst (Holds s (Start n ∷ h)) (provided-Some (can_start w.run) (record { run = after_start s n w.run; running_systems = w.running_systems ++ started_system s n w.run ∷ [] }) after e).1
    (holds_start s h n w lawful may all k)
holds_step s bodies h (Skip n) w after lawful may all k e =
    let same : Holds s (Skip n ∷ h) w = record { alive = k.alive; listed = k.listed; fit = k.fit; beside = k.beside } in
    subst (Holds s (Skip n ∷ h)) (same_Some w after e) same
holds_step s bodies h (Finish n) w after lawful may all k e =
    option_and_then_some (λ p. with_running_systems (without_system n w.running_systems) (finish s bodies p w.run)) (running_system n w.running_systems) after e (λ p i f.
    let r : (run : RunState) × (finish s bodies p w.run ≡ Some run) × (record { run = run; running_systems = without_system n w.running_systems } ≡ after)
    = with_running_systems-Some (without_system n w.running_systems) (finish s bodies p w.run) after f in
    subst (Holds s (Finish n ∷ h)) r.2 (holds_finish s bodies h n w p r.0 k r.1))
holds_step s bodies h (Sync j) w after lawful may all k e =
    subst (Holds s (Sync j ∷ h)) (provided-Some (can_sync s j w.run) (record { run = after_sync s j w.run; running_systems = w.running_systems }) after e).1
    (holds_sync s h j w lawful may k)

-- after a lawful history whose kind sets are true
pub holds : (s : Schedule) (bodies : List BodyMeaning) (start : State) (h : List Step) (w : Interleaved) → IsLawful s h → HasTrueSets s bodies start h →
    interleaved s bodies start h ≡ Some w → Holds s h w
holds s bodies start [] w lawful sets e =
    let r : (run : RunState) × (begin_run s start ≡ Some run) × (record { run = run; running_systems = [] } ≡ w) = with_running_systems-Some [] (begin_run s start) w e in
    let first : Holds s [] (record { run = r.0; running_systems = [] }) = record { alive = (λ p i. absurd i); listed = (λ n i. absurd (cc)); fit = (λ p i. absurd i); beside = tt } in
    subst (Holds s []) r.2 first
holds s bodies start (step ∷ h) w lawful sets e =
    option_and_then_some (interleaved_step s bodies step) (interleaved s bodies start h) w e (λ v d f.
    let before = sets_before s bodies start step h sets in
    holds_step s bodies h step v w lawful.1 lawful.0 (all_among s bodies start h v before d) (holds s bodies start h v lawful.1 before d) f)
