-- All running systems finish, in order: that they can do so in any order, and beside what doesn't meet them.
use Rattle.std.proofs.Common.{ℕ, Bool, true, false, cond, ◌==◌, ◌≡◌, ◌≢◌, List, [], ◌∷◌, ◌++◌, Option, Some, None, Result, Ok, Err, option_and_then, refl, sym, ap, ap₂, ◌∙◌, subst, inl, inr}
use Rattle.std.proofs.lemmas.Bool.{eqb-true}
use Rattle.std.proofs.lemmas.Option.{option_and_then_some, same_Some}
use Rattle.model.specs.Lists.{IsIn, provided}
use Rattle.model.specs.steps.Schedule.{Schedule, params_of}
use Rattle.model.specs.shown.Outcome.{Outcome, BodyMeaning}
use Rattle.model.specs.runs.RunState.{RunState, RunningSystem, can_finish, overlaid, finish_with, finish, body_of}
use Rattle.model.specs.runs.Meaning.{running_system, without_system}
use Rattle.model.proofs.lists.Lists.{option_and_then-same, option_and_then-assoc, provided-Some}
use Rattle.model.proofs.serial.Conflicts.{ApartBy, apart_swap}
use Rattle.model.proofs.serial.Overlays.{Fits, fits-overlaid, overlaid-comm, can_finish-overlaid}

-- ---- words

-- all of these systems finish, in order
abbrev pub settle : Schedule → List BodyMeaning → List RunningSystem → RunState → Option RunState
settle s bodies [] run = Some run
settle s bodies (p ∷ ps) run = option_and_then (settle s bodies ps) (finish s bodies p run)

-- two running systems are two, and don't meet
pub record IsBeside (there : Option (List ℕ)) (s : Schedule) (p q : RunningSystem) : Type 0 where
  pub other : p.system ≢ q.system
  pub apart : ApartBy there (params_of s p.system) (params_of s q.system)

-- each two of the running systems
abbrev pub AreBeside : Option (List ℕ) → Schedule → List RunningSystem → Type 0
AreBeside there s [] = Unit {0}
AreBeside there s (p ∷ ps) = ((q : RunningSystem) → IsIn q ps → IsBeside there s p q) × AreBeside there s ps

-- each of the running systems fits
abbrev pub AllFit : Option (List ℕ) → Schedule → List RunningSystem → RunState → Type 0
AllFit there s ps run = (p : RunningSystem) → IsIn p ps → Fits there s p run.state.world.slots

-- ---- options

-- nothing after anything is nothing
option_and_then-None : {A B : Type 0} (o : Option A) → option_and_then {T = A} {U = B} (λ x. None) o ≡ None
option_and_then-None None = refl
option_and_then-None (Some x) = refl

-- two steps, each provided by a test, can be swapped where neither changes the test of the other
provided-swap : {A : Type 0} (test other : A → Bool) (f g : A → A) (x : A) → other (f x) ≡ other x → test (g x) ≡ test x → g (f x) ≡ f (g x) →
    option_and_then (λ y. provided (other y) (g y)) (provided (test x) (f x)) ≡ option_and_then (λ y. provided (test y) (f y)) (provided (other x) (g x))
provided-swap {A} test other f g x p q r = go (test x) (other x) refl refl
  where
    go : (a b : Bool) → test x ≡ a → other x ≡ b →
        option_and_then (λ y. provided (other y) (g y)) (provided a (f x)) ≡ option_and_then (λ y. provided (test y) (f y)) (provided b (g x))
    go true true d e = ap₂ provided (p ∙ e ∙ sym (q ∙ d)) r
    go true false d e = ap (λ t. provided t (g (f x))) (p ∙ e)
    go false true d e = sym (ap (λ t. provided t (f (g x))) (q ∙ d))
    go false false d e = refl

-- ---- one finish

-- a finish: what the body answered, that it can be laid over, and what that leaves
pub record IsFinished (s : Schedule) (bodies : List BodyMeaning) (p : RunningSystem) (run after : RunState) : Type 0 where
  pub outcome : Outcome
  pub answers : body_of bodies p.system p.shown ≡ Ok outcome
  pub can : can_finish s p.system outcome run ≡ true
  pub leaves : overlaid s p outcome run ≡ after

-- a finish that is there gives one
pub finished : (s : Schedule) (bodies : List BodyMeaning) (p : RunningSystem) (run after : RunState) → finish s bodies p run ≡ Some after → IsFinished s bodies p run after
finished s bodies p run after h = go (body_of bodies p.system p.shown) refl h
  where
    go : (b : Result Outcome ℕ) → body_of bodies p.system p.shown ≡ b → finish_with s b p run ≡ Some after → IsFinished s bodies p run after
    go (Err x) e f = absurd (cc)
    go (Ok o) e f =
        let r : (can_finish s p.system o run ≡ true) × (overlaid s p o run ≡ after) = provided-Some (can_finish s p.system o run) (overlaid s p o run) after f in
        record { outcome = o; answers = e; can = r.0; leaves = r.1 }

-- what no outcome changes is the same after a finish
pub finish-view : {A : Type 0} (view : RunState → A) (s : Schedule) (bodies : List BodyMeaning) (p : RunningSystem) (run after : RunState) →
    ((o : Outcome) → view (overlaid s p o run) ≡ view run) → finish s bodies p run ≡ Some after → view after ≡ view run
finish-view view s bodies p run after h e =
    let f : IsFinished s bodies p run after = finished s bodies p run after e in
    ap view (sym f.leaves) ∙ h f.outcome

-- what fits still fits after a finish
pub fits-finish : (there : Option (List ℕ)) (s : Schedule) (bodies : List BodyMeaning) (p q : RunningSystem) (run after : RunState) → finish s bodies q run ≡ Some after →
    Fits there s p run.state.world.slots → Fits there s p after.state.world.slots
fits-finish there s bodies p q run after e h =
    let f : IsFinished s bodies q run after = finished s bodies q run after e in
    subst (λ (r : RunState). Fits there s p r.state.world.slots) f.leaves (fits-overlaid there s p q f.outcome run h)

-- all that fit still fit
all_fit-finish : (there : Option (List ℕ)) (s : Schedule) (bodies : List BodyMeaning) (ps : List RunningSystem) (q : RunningSystem) (run after : RunState) → finish s bodies q run ≡ Some after →
    AllFit there s ps run → AllFit there s ps after
all_fit-finish there s bodies ps q run after e h p i = fits-finish there s bodies p q run after e (h p i)

-- a step, given by a test and an effect, can be taken before or after a finish where neither changes the other
pub finish-act : (s : Schedule) (bodies : List BodyMeaning) (p : RunningSystem) (test : RunState → Bool) (effect : RunState → RunState) (run : RunState) →
    ((o : Outcome) → test (overlaid s p o run) ≡ test run) → ((o : Outcome) → can_finish s p.system o (effect run) ≡ can_finish s p.system o run) →
    ((o : Outcome) → effect (overlaid s p o run) ≡ overlaid s p o (effect run)) →
    option_and_then (λ r. provided (test r) (effect r)) (finish s bodies p run) ≡ option_and_then (finish s bodies p) (provided (test run) (effect run))
finish-act s bodies p test effect run f g h = go (body_of bodies p.system p.shown)
  where
    go : (b : Result Outcome ℕ) →
        option_and_then (λ r. provided (test r) (effect r)) (finish_with s b p run) ≡ option_and_then (finish_with s b p) (provided (test run) (effect run))
    go (Err x) = sym (option_and_then-None (provided (test run) (effect run)))
    go (Ok o) = provided-swap (can_finish s p.system o) test (overlaid s p o) effect run (f o) (g o) (h o)

-- two finishes can be swapped
pub finish_swap : (there : Option (List ℕ)) (s : Schedule) (bodies : List BodyMeaning) (p q : RunningSystem) (run : RunState) → IsBeside there s p q →
    Fits there s p run.state.world.slots → Fits there s q run.state.world.slots →
    option_and_then (finish s bodies q) (finish s bodies p run) ≡ option_and_then (finish s bodies p) (finish s bodies q run)
finish_swap there s bodies p q run b f g = go (body_of bodies q.system q.shown)
  where
    go : (c : Result Outcome ℕ) → option_and_then (finish_with s c q) (finish s bodies p run) ≡ option_and_then (finish s bodies p) (finish_with s c q run)
    go (Err x) = option_and_then-None (finish s bodies p run)
    go (Ok o) = finish-act s bodies p (can_finish s q.system o) (overlaid s q o) run
        (λ r. can_finish-overlaid there s q p o r run (apart_swap there (params_of s p.system) (params_of s q.system) b.apart))
        (λ r. can_finish-overlaid there s p q r o run b.apart)
        (λ r. sym (overlaid-comm there s p q r o run b.other b.apart f g))

-- ---- the running system of a number

-- it is one of them, of that number
pub running_system-IsIn : (n : ℕ) (ps : List RunningSystem) (p : RunningSystem) → running_system n ps ≡ Some p → IsIn p ps × (p.system ≡ n)
running_system-IsIn n [] p h = absurd (cc)
running_system-IsIn n (q ∷ ps) p h = go (q.system == n) refl h (running_system-IsIn n ps p)
  where
    go : (b : Bool) → (q.system == n) ≡ b → cond b (Some q) (running_system n ps) ≡ Some p → (running_system n ps ≡ Some p → IsIn p ps × (p.system ≡ n)) →
        IsIn p (q ∷ ps) × (p.system ≡ n)
    go true e r f = (inl (sym (same_Some q p r)), ap (λ (x : RunningSystem). x.system) (sym (same_Some q p r)) ∙ eqb-true q.system n e)
    go false e r f = (inr (f r).0, (f r).1)

-- ---- settling

-- a system that finishes first
pub settle-without_system : (there : Option (List ℕ)) (s : Schedule) (bodies : List BodyMeaning) (n : ℕ) (ps : List RunningSystem) (p : RunningSystem) (run : RunState) →
    AreBeside there s ps → AllFit there s ps run → running_system n ps ≡ Some p →
    settle s bodies ps run ≡ option_and_then (settle s bodies (without_system n ps)) (finish s bodies p run)
settle-without_system there s bodies n [] p run b f h = absurd (cc)
settle-without_system there s bodies n (q ∷ ps) p run b f h =
    go (q.system == n) h (λ r e i. settle-without_system there s bodies n ps p r b.1 (all_fit-finish there s bodies ps q run r e (λ x j. f x (inr j))) i)
  where
    go : (t : Bool) → cond t (Some q) (running_system n ps) ≡ Some p →
        ((r : RunState) → finish s bodies q run ≡ Some r → running_system n ps ≡ Some p →
        settle s bodies ps r ≡ option_and_then (settle s bodies (without_system n ps)) (finish s bodies p r)) →
        settle s bodies (q ∷ ps) run ≡ option_and_then (settle s bodies (cond t ps (q ∷ without_system n ps))) (finish s bodies p run)
    go true e k = ap (λ x. option_and_then (settle s bodies ps) (finish s bodies x run)) (same_Some q p e)
    go false e k =
        option_and_then-same (settle s bodies ps) (λ r. option_and_then (settle s bodies (without_system n ps)) (finish s bodies p r)) (finish s bodies q run) (λ r d. k r d e)
        ∙ sym (option_and_then-assoc (finish s bodies p) (settle s bodies (without_system n ps)) (finish s bodies q run))
        ∙ ap (option_and_then (settle s bodies (without_system n ps)))
        (finish_swap there s bodies q p run (b.0 p (running_system-IsIn n ps p e).0) (f q (inl refl)) (f p (inr (running_system-IsIn n ps p e).0)))
        ∙ option_and_then-assoc (finish s bodies q) (settle s bodies (without_system n ps)) (finish s bodies p run)

-- a step is beside a running system: it can be taken before or after its finish, and the same systems start
pub record IsActBeside (there : Option (List ℕ)) (s : Schedule) (bodies : List BodyMeaning) (act : RunState → Option RunState) (who : RunState → List RunningSystem) (p : RunningSystem) : Type 0 where
  pub swaps : (run : RunState) → Fits there s p run.state.world.slots → option_and_then act (finish s bodies p run) ≡ option_and_then (finish s bodies p) (act run)
  pub same : (run after : RunState) → Fits there s p run.state.world.slots → finish s bodies p run ≡ Some after → who after ≡ who run

-- a step beside all running systems, after them or before them
pub settle-act : (there : Option (List ℕ)) (s : Schedule) (bodies : List BodyMeaning) (act : RunState → Option RunState) (who : RunState → List RunningSystem) (ps : List RunningSystem) (run : RunState) →
    ((p : RunningSystem) → IsIn p ps → IsActBeside there s bodies act who p) → AllFit there s ps run →
    option_and_then (λ r. option_and_then (settle s bodies (who r)) (act r)) (settle s bodies ps run) ≡ option_and_then (settle s bodies (ps ++ who run)) (act run)
settle-act there s bodies act who [] run b f = refl
settle-act there s bodies act who (p ∷ ps) run b f =
    option_and_then-assoc (settle s bodies ps) (λ r. option_and_then (settle s bodies (who r)) (act r)) (finish s bodies p run)
    ∙ option_and_then-same (λ r. option_and_then (λ x. option_and_then (settle s bodies (who x)) (act x)) (settle s bodies ps r))
    (λ r. option_and_then (settle s bodies (ps ++ who run)) (act r)) (finish s bodies p run)
    (λ r e. settle-act there s bodies act who ps r (λ q i. b q (inr i)) (all_fit-finish there s bodies ps p run r e (λ q i. f q (inr i)))
    ∙ ap (λ xs. option_and_then (settle s bodies (ps ++ xs)) (act r)) ((b p (inl refl)).same run r (f p (inl refl)) e))
    ∙ sym (option_and_then-assoc act (settle s bodies (ps ++ who run)) (finish s bodies p run))
    ∙ ap (option_and_then (settle s bodies (ps ++ who run))) ((b p (inl refl)).swaps run (f p (inl refl)))
    ∙ option_and_then-assoc (finish s bodies p) (settle s bodies (ps ++ who run)) (act run)

-- what no outcome changes is the same after all have finished
pub settle-view : {A : Type 0} (there : Option (List ℕ)) (view : RunState → A) (s : Schedule) (bodies : List BodyMeaning) (ps : List RunningSystem) (run after : RunState) →
    ((p : RunningSystem) → IsIn p ps → (r : RunState) (o : Outcome) → Fits there s p r.state.world.slots → view (overlaid s p o r) ≡ view r) →
    AllFit there s ps run → settle s bodies ps run ≡ Some after → view after ≡ view run
settle-view there view s bodies [] run after h f e = ap view (sym (same_Some run after e))
settle-view there view s bodies (p ∷ ps) run after h f e =
    option_and_then_some (settle s bodies ps) (finish s bodies p run) after e (λ r d k.
    settle-view there view s bodies ps r after (λ q i. h q (inr i)) (all_fit-finish there s bodies ps p run r d (λ q i. f q (inr i))) k
    ∙ finish-view view s bodies p run r (λ o. h p (inl refl) run o (f p (inl refl))) d)
