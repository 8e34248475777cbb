-- The kind sets that may be there: where what is recorded is true each living entity has one of them, and keeps it up to the next sync point.
use Rattle.std.proofs.Common.{ℕ, zero, suc, ◌^◌, nat_lt, Bool, true, false, cond, ◌||◌, ◌==◌, ◌≡◌, List, [], ◌∷◌, ◌++◌, get_or, Option, Some, None, is_some, refl, sym, ap, ap₂, ◌∙◌, subst, inl, inr}
use Rattle.std.proofs.lemmas.Bool.{eqb-true, false≢true}
use Rattle.std.proofs.lemmas.Option.{option_and_then_some, same_Some}
use mathlib.Core.Path.{fun_ext}
use Rattle.model.specs.declared.steps.Step.{Step}
use Rattle.model.specs.declared.steps.Step.TheVariants.{Cond, Start, Skip, Finish, Sync}
use Rattle.model.specs.Lists.{IsIn}
use Rattle.model.specs.state.State.{Component, Slot, State, fresh_slot, is_living}
use Rattle.model.specs.state.Rows.{row_at, cell_at, kinds_of}
use Rattle.model.specs.state.KindSets.{set_of, kinds_number, with_number, kind_sets_of}
use Rattle.model.specs.access.Meeting.{IsAmong}
use Rattle.model.specs.shown.Outcome.{Outcome, BodyMeaning, words_written}
use Rattle.model.specs.steps.Schedule.{Schedule, params_of}
use Rattle.model.specs.steps.Lawful.{sets_at}
use Rattle.model.specs.runs.RunState.{RunState, RunningSystem, has_tick, can_start, started_system, after_start, overlaid, finish, after_condition}
use Rattle.model.specs.runs.Meaning.{Interleaved, running_system, without_system, with_running_systems, interleaved_step, interleaved, AreSetsOf, HasTrueSets}
use Rattle.model.proofs.lists.Lists.{provided-Some}
use Rattle.model.proofs.lists.Bits.{bit_of_either, no_bit, bit_of_power}
use Rattle.model.proofs.serial.Within.{AllAmong}
use Rattle.model.proofs.serial.Writes.{kinds_of-slots_after, status-slots_after}
use Rattle.model.proofs.serial.Settling.{IsFinished, finished}

-- ---- the number of a row's kinds

-- whether what is first is found, or something later
found_first : {A : Type 0} (b : Bool) (x : A) (o : Option A) → (b || is_some o) ≡ is_some (cond b (Some x) o)
found_first true x o = refl
found_first false x o = refl

-- the set of a row's number holds a kind where the row does
number-kinds : (row : List Component) (kind : ℕ) → set_of (kinds_number row) kind ≡ kinds_of row kind
unfolding kinds_number
number-kinds [] kind = no_bit kind
number-kinds (c ∷ cs) kind =
    bit_of_either (2 ^ c.kind) (kinds_number cs) kind
    ∙ (ap₂ ◌||◌ (bit_of_power c.kind kind) (number-kinds cs kind) ∙ found_first (c.kind == kind) c.cell (cell_at cs kind))

-- the set of a row's number is the row's kinds
pub set_of-kinds_number : (row : List Component) → set_of (kinds_number row) ≡ kinds_of row
set_of-kinds_number row = fun_ext (number-kinds row)

-- ---- the kind sets of the living entities

-- a number is among those to which it was added
pub number_here : (n : ℕ) (ms : List ℕ) → IsIn n (with_number n ms)
number_here n [] = inl refl
number_here n (m ∷ ms) = go (n == m) (nat_lt n m) refl (number_here n ms)
  where
    go : (same below : Bool) → (n == m) ≡ same → IsIn n (with_number n ms) → IsIn n (cond same (m ∷ ms) (cond below (n ∷ m ∷ ms) (m ∷ with_number n ms)))
    go true below e i = inl (eqb-true n m e)
    go false true e i = inl refl
    go false false e i = inr i

-- those to which it was added are among them
pub number_stays : (n k : ℕ) (ms : List ℕ) → IsIn k ms → IsIn k (with_number n ms)
number_stays n k [] i = absurd i
number_stays n k (m ∷ ms) i = go (n == m) (nat_lt n m) i (number_stays n k ms)
  where
    go : (same below : Bool) → IsIn k (m ∷ ms) → (IsIn k ms → IsIn k (with_number n ms)) → IsIn k (cond same (m ∷ ms) (cond below (n ∷ m ∷ ms) (m ∷ with_number n ms)))
    go true below i f = i
    go false true i f = inr i
    go false false (inl e) f = inl e
    go false false (inr i) f = inr (f i)

-- the kinds of a living entity are listed
pub listed : (slots : List Slot) (index : ℕ) → is_living (get_or slots index fresh_slot).status ≡ true → IsIn (kinds_number (row_at slots index)) (kind_sets_of slots)
unfolding kind_sets_of
listed [] index l = absurd (false≢true l)
listed (slot ∷ slots) zero l = go (is_living slot.status) l
  where
    go : (b : Bool) → b ≡ true → IsIn (kinds_number slot.row) (cond b (with_number (kinds_number slot.row) (kind_sets_of slots)) (kind_sets_of slots))
    go true e = number_here (kinds_number slot.row) (kind_sets_of slots)
    go false e = absurd (false≢true e)
listed (slot ∷ slots) (suc index) l = go (is_living slot.status) (listed slots index l)
  where
    go : (b : Bool) → IsIn (kinds_number (row_at slots index)) (kind_sets_of slots) →
        IsIn (kinds_number (row_at slots index)) (cond b (with_number (kinds_number slot.row) (kind_sets_of slots)) (kind_sets_of slots))
    go true i = number_stays (kinds_number slot.row) (kinds_number (row_at slots index)) (kind_sets_of slots) i
    go false i = i

-- where the kind sets of the living entities may be there, each of them has kinds that may be
pub all_listed : (numbers : List ℕ) (slots : List Slot) → numbers ≡ kind_sets_of slots → AllAmong (Some numbers) slots
all_listed numbers slots e index l =
    (kinds_number (row_at slots index), subst (IsIn (kinds_number (row_at slots index))) (sym e) (listed slots index l), sym (set_of-kinds_number (row_at slots index)))

-- so by kind sets that were recorded, where they are true
all_recorded : (sets : Option (List ℕ)) (w : Interleaved) → AreSetsOf sets (Some w) → AllAmong sets w.run.state.world.slots
all_recorded None w e index l = tt
all_recorded (Some numbers) w e index l = all_listed numbers w.run.state.world.slots e index l

-- ---- they stay

-- where kinds and statuses are the same
pub all_among-same : (there : Option (List ℕ)) (slots others : List Slot) → ((index : ℕ) → kinds_of (row_at others index) ≡ kinds_of (row_at slots index)) →
    ((index : ℕ) → (get_or others index fresh_slot).status ≡ (get_or slots index fresh_slot).status) → AllAmong there slots → AllAmong there others
all_among-same there slots others kinds status all index l = subst (IsAmong there) (sym (kinds index)) (all index (ap is_living (sym (status index)) ∙ l))

-- after an overlay
pub all_among-overlaid : (there : Option (List ℕ)) (s : Schedule) (p : RunningSystem) (o : Outcome) (run : RunState) → AllAmong there run.state.world.slots →
    AllAmong there (overlaid s p o run).state.world.slots
unfolding overlaid
all_among-overlaid there s p o run all = all_among-same there run.state.world.slots (overlaid s p o run).state.world.slots
    (kinds_of-slots_after p.tick (words_written (params_of s p.system).queries p.shown.rows o.cells) run.state.world.slots)
    (status-slots_after p.tick (words_written (params_of s p.system).queries p.shown.rows o.cells) run.state.world.slots) all

-- after a start
pub all_among-after_start : (there : Option (List ℕ)) (s : Schedule) (n : ℕ) (run : RunState) → AllAmong there run.state.world.slots →
    AllAmong there (after_start s n run).state.world.slots
unfolding after_start
all_among-after_start there s n run all = all

-- after a condition
pub all_among-after_condition : (there : Option (List ℕ)) (s : Schedule) (c : ℕ) (run : RunState) → AllAmong there run.state.world.slots →
    AllAmong there (after_condition s c run).state.world.slots
unfolding after_condition
all_among-after_condition there s c run all = all

-- after a finish
pub all_among-finish : (there : Option (List ℕ)) (s : Schedule) (bodies : List BodyMeaning) (p : RunningSystem) (run after : RunState) → finish s bodies p run ≡ Some after →
    AllAmong there run.state.world.slots → AllAmong there after.state.world.slots
all_among-finish there s bodies p run after e all =
    let f : IsFinished s bodies p run after = finished s bodies p run after e in
    subst (λ (r : RunState). AllAmong there r.state.world.slots) f.leaves (all_among-overlaid there s p f.outcome run all)

-- ---- histories

-- what was recorded before the latest step is true
pub sets_before : (s : Schedule) (bodies : List BodyMeaning) (start : State) (step : Step) (h : List Step) → HasTrueSets s bodies start (step ∷ h) → HasTrueSets s bodies start h
sets_before s bodies start (Cond c answer) h sets = sets
sets_before s bodies start (Start n) h sets = sets
sets_before s bodies start (Skip n) h sets = sets
sets_before s bodies start (Finish n) h sets = sets
sets_before s bodies start (Sync k) h sets = sets.1

-- what was recorded before other steps is true
pub sets_front : (s : Schedule) (bodies : List BodyMeaning) (start : State) (later h : List Step) → HasTrueSets s bodies start (later ++ h) → HasTrueSets s bodies start h
sets_front s bodies start [] h sets = sets
sets_front s bodies start (step ∷ later) h sets = sets_front s bodies start later h (sets_before s bodies start step (later ++ h) sets)

-- a run state with running systems that is there
pub with_running_systems-Some : (ps : List RunningSystem) (o : Option RunState) (w : Interleaved) → with_running_systems ps o ≡ Some w →
    (run : RunState) × (o ≡ Some run) × (record { run = run; running_systems = ps } ≡ w)
with_running_systems-Some ps None w h = absurd (cc)
with_running_systems-Some ps (Some run) w h = (run, refl, same_Some (record { run = run; running_systems = ps }) w h)

-- after a history whose kind sets are true each living entity has kinds that may be there, by those recorded last
pub all_among : (s : Schedule) (bodies : List BodyMeaning) (start : State) (h : List Step) (w : Interleaved) → HasTrueSets s bodies start h →
    interleaved s bodies start h ≡ Some w → AllAmong (sets_at s h) w.run.state.world.slots
all_among s bodies start [] w sets e = all_recorded (sets_at s []) w (subst (AreSetsOf (sets_at s [])) e sets)
all_among s bodies start (Cond c answer ∷ h) w sets e =
    option_and_then_some (interleaved_step s bodies (Cond c answer)) (interleaved s bodies start h) w e (λ v d f.
    subst (λ (x : Interleaved). AllAmong (sets_at s h) x.run.state.world.slots)
    (provided-Some (has_tick v.run.state) (record { run = after_condition s c v.run; running_systems = v.running_systems }) w f).1
    (all_among-after_condition (sets_at s h) s c v.run (all_among s bodies start h v sets d)))
all_among s bodies start (Start n ∷ h) w sets e =
    option_and_then_some (interleaved_step s bodies (Start n)) (interleaved s bodies start h) w e (λ v d f.
    subst (λ (x : Interleaved). AllAmong (sets_at s h) x.run.state.world.slots)
    (provided-Some (can_start v.run) (record { run = after_start s n v.run; running_systems = v.running_systems ++ started_system s n v.run ∷ [] }) w f).1
    (all_among-after_start (sets_at s h) s n v.run (all_among s bodies start h v sets d)))
all_among s bodies start (Skip n ∷ h) w sets e =
    option_and_then_some (interleaved_step s bodies (Skip n)) (interleaved s bodies start h) w e (λ v d f.
    subst (λ (x : Interleaved). AllAmong (sets_at s h) x.run.state.world.slots) (same_Some v w f) (all_among s bodies start h v sets d))
all_among s bodies start (Finish n ∷ h) w sets e =
    option_and_then_some (interleaved_step s bodies (Finish n)) (interleaved s bodies start h) w e (λ v d f.
    option_and_then_some (λ p. with_running_systems (without_system n v.running_systems) (finish s bodies p v.run)) (running_system n v.running_systems) w f (λ p i g.
    let r : (run : RunState) × (finish s bodies p v.run ≡ Some run) × (record { run = run; running_systems = without_system n v.running_systems } ≡ w)
    = with_running_systems-Some (without_system n v.running_systems) (finish s bodies p v.run) w g in
    subst (λ (x : Interleaved). AllAmong (sets_at s h) x.run.state.world.slots) r.2
    (all_among-finish (sets_at s h) s bodies p v.run r.0 r.1 (all_among s bodies start h v sets d))))
all_among s bodies start (Sync k ∷ h) w sets e = all_recorded (sets_at s (Sync k ∷ h)) w (subst (AreSetsOf (sets_at s (Sync k ∷ h))) e sets.0)
