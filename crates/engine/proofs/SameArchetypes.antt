-- What leaves the kind sets of the living entities as they are: writes, grants and releases of ids, and each step of a run but a sync point. So
-- those recorded last are those that are there.
use Rattle.std.proofs.Common.{ℕ, zero, suc, ◌-◌, ◌^◌, Bool, true, false, cond, ◌≡◌, List, [], ◌∷◌, ◌++◌, length, ℤ, Option, Some, refl, sym, ap, ◌∙◌, subst, subst₂}
use Rattle.std.specs.Prelude.{bit_or}
use Rattle.std.proofs.lemmas.Option.{option_and_then_some, same_Some}
use Rattle.model.specs.declared.steps.Step.{Step}
use Rattle.model.specs.declared.steps.Step.TheVariants.{Cond, Start, Skip, Finish, Sync}
use Rattle.model.specs.declared.entities.Entity.{Entity}
use Rattle.model.specs.Lists.{IsIn, has, map_index}
use Rattle.model.specs.state.State.{Component, Slot, State, fresh_slot, is_living}
use Rattle.model.specs.state.Rows.{row_at}
use Rattle.model.specs.state.Ids.{grant, grant_each, granted_slot, least_vacant, vacant_indices, with_room}
use Rattle.model.specs.state.Commands.{release}
use Rattle.model.specs.state.KindSets.{kinds_number, with_number, kind_sets_of}
use Rattle.model.specs.shown.Outcome.{BodyMeaning, Outcome, words_written}
use Rattle.model.specs.shown.Overlay.{row_after, slot_after, slots_after}
use Rattle.model.specs.steps.Schedule.{Schedule, params_of}
use Rattle.model.specs.steps.Lawful.{sets_at}
use Rattle.model.specs.runs.RunState.{RunState, RunningSystem, has_tick, can_start, counts_of_level, started_system, after_start, after_condition, after_grant, overlaid, finish}
use Rattle.model.specs.runs.Meaning.{Interleaved, running_system, without_system, with_running_systems, interleaved_step, interleaved, AreSetsOf, HasTrueSets}
use Rattle.model.proofs.lists.Lists.{get_or-append_replicate, get_or-map_index-view, provided-Some}
use Rattle.model.proofs.serial.KindLists.{kind_sets-living, kind_sets-only, kind_sets-rise}
use Rattle.model.proofs.serial.Settling.{IsFinished, finished}
use Rattle.model.proofs.serial.There.{listed, with_running_systems-Some}
use Rattle.entity_table.specs.Ids.{lives_at}
use Rattle.entity_table.proofs.Grants.{lives_at-grant}
use Rattle.entity_table.proofs.Releases.{lives_at-release, living-release}

-- ---- slots

-- where the same indices live with the same kinds
kind_sets-alike : (xs ys : List Slot) → ((i : ℕ) → lives_at xs i ≡ lives_at ys i) →
    ((i : ℕ) → lives_at ys i ≡ true → kinds_number (row_at xs i) ≡ kinds_number (row_at ys i)) → kind_sets_of xs ≡ kind_sets_of ys
kind_sets-alike xs ys lives kinds = kind_sets-only ys (kind_sets_of xs) (kind_sets-rise xs)
    (λ n i. let r = kind_sets-living xs n i in let there = sym (lives r.index) ∙ r.lives in record { index = r.index; lives = there; kinds = r.kinds ∙ kinds r.index there })
    (λ index there. subst (λ n. IsIn n (kind_sets_of xs)) (kinds index there) (listed xs index (lives index ∙ there)))

-- after a grant
row-granted : (n : ℕ) (slots : List Slot) (i : ℕ) → row_at (grant n slots) i ≡ row_at slots i
unfolding grant with_room
row-granted n slots i =
    get_or-map_index-view (λ (slot : Slot). slot.row) (λ index slot. cond (has index (least_vacant n slots)) (granted_slot slot) slot) (with_room n slots) i fresh_slot
    (λ index slot. kept (has index (least_vacant n slots)) slot)
    ∙ ap (λ (slot : Slot). slot.row) (get_or-append_replicate slots (n - length (vacant_indices slots)) i fresh_slot)
  where
    kept : (b : Bool) (slot : Slot) → (cond b (granted_slot slot) slot).row ≡ slot.row
    kept true slot = refl
    kept false slot = refl

kind_sets-grant : (n : ℕ) (slots : List Slot) → kind_sets_of (grant n slots) ≡ kind_sets_of slots
kind_sets-grant n slots = kind_sets-alike (grant n slots) slots (lives_at-grant n slots) (λ i lives. ap kinds_number (row-granted n slots i))

pub kind_sets-grant_each : (ns : List ℕ) (slots : List Slot) → kind_sets_of (grant_each ns slots) ≡ kind_sets_of slots
unfolding grant_each
kind_sets-grant_each [] slots = refl
kind_sets-grant_each (n ∷ ns) slots = kind_sets-grant_each ns (grant n slots) ∙ kind_sets-grant n slots

pub kind_sets-after_grant : (s : Schedule) (k : ℕ) (run : RunState) → kind_sets_of (after_grant s k run).state.world.slots ≡ kind_sets_of run.state.world.slots
unfolding after_grant
kind_sets-after_grant s k run = kind_sets-grant_each (counts_of_level s k) run.state.world.slots

-- after a release
pub kind_sets-release : (ids : List Entity) (slots : List Slot) → kind_sets_of (release ids slots) ≡ kind_sets_of slots
kind_sets-release ids slots = kind_sets-alike (release ids slots) slots (lives_at-release ids slots)
    (λ i lives. ap (λ (slot : Slot). kinds_number slot.row) (living-release ids slots i lives))

-- after writes
number-row_after : (tick : ℕ) (words : ℕ → Option (List ℤ)) (row : List Component) → kinds_number (row_after tick words row) ≡ kinds_number row
unfolding kinds_number
number-row_after tick words [] = refl
number-row_after tick words (c ∷ cs) = ap (bit_or (2 ^ c.kind)) (number-row_after tick words cs)

kind_sets-map_index : (f : ℕ → Slot → Slot) (slots : List Slot) → ((i : ℕ) (slot : Slot) → (f i slot).status ≡ slot.status) →
    ((i : ℕ) (slot : Slot) → kinds_number (f i slot).row ≡ kinds_number slot.row) → kind_sets_of (map_index f slots) ≡ kind_sets_of slots
unfolding kind_sets_of
kind_sets-map_index f [] status kinds = refl
kind_sets-map_index f (slot ∷ slots) status kinds =
    let rest = kind_sets-map_index (λ i. f (suc i)) slots (λ i s. status (suc i) s) (λ i s. kinds (suc i) s) in
    ap (λ st. cond (is_living st) (with_number (kinds_number (f zero slot).row) (kind_sets_of (map_index (λ i. f (suc i)) slots))) (kind_sets_of (map_index (λ i. f (suc i)) slots))) (status zero slot)
    ∙ ap (λ n. cond (is_living slot.status) (with_number n (kind_sets_of (map_index (λ i. f (suc i)) slots))) (kind_sets_of (map_index (λ i. f (suc i)) slots))) (kinds zero slot)
    ∙ ap (λ ns. cond (is_living slot.status) (with_number (kinds_number slot.row) ns) ns) rest

pub kind_sets-slots_after : (tick : ℕ) (words : ℕ → ℕ → Option (List ℤ)) (slots : List Slot) → kind_sets_of (slots_after tick words slots) ≡ kind_sets_of slots
unfolding slots_after
kind_sets-slots_after tick words slots = kind_sets-map_index (λ index. slot_after tick (words index)) slots (λ i slot. refl) (λ i slot. number-row_after tick (words i) slot.row)

-- ---- steps

kind_sets-overlaid : (s : Schedule) (p : RunningSystem) (o : Outcome) (run : RunState) → kind_sets_of (overlaid s p o run).state.world.slots ≡ kind_sets_of run.state.world.slots
unfolding overlaid
kind_sets-overlaid s p o run = kind_sets-slots_after p.tick (words_written (params_of s p.system).queries p.shown.rows o.cells) run.state.world.slots

kind_sets-after_start : (s : Schedule) (n : ℕ) (run : RunState) → kind_sets_of (after_start s n run).state.world.slots ≡ kind_sets_of run.state.world.slots
unfolding after_start
kind_sets-after_start s n run = refl

kind_sets-after_condition : (s : Schedule) (c : ℕ) (run : RunState) → kind_sets_of (after_condition s c run).state.world.slots ≡ kind_sets_of run.state.world.slots
unfolding after_condition
kind_sets-after_condition s c run = refl

kind_sets-finish : (s : Schedule) (bodies : List BodyMeaning) (p : RunningSystem) (run after : RunState) → finish s bodies p run ≡ Some after →
    kind_sets_of after.state.world.slots ≡ kind_sets_of run.state.world.slots
kind_sets-finish s bodies p run after e =
    let f : IsFinished s bodies p run after = finished s bodies p run after e in
    ap (λ (r : RunState). kind_sets_of r.state.world.slots) (sym f.leaves) ∙ kind_sets-overlaid s p f.outcome run

-- ---- histories

-- the kind sets of a state that is there
abbrev sets_of : Interleaved → List ℕ
sets_of w = kind_sets_of w.run.state.world.slots

-- after a history whose kind sets are true those recorded last are those that are there
pub sets_last : (s : Schedule) (bodies : List BodyMeaning) (start : State) (h : List Step) (w : Interleaved) (numbers : List ℕ) → sets_at s h ≡ Some numbers →
    HasTrueSets s bodies start h → interleaved s bodies start h ≡ Some w → numbers ≡ sets_of w
sets_last s bodies start [] w numbers at sets e = subst₂ AreSetsOf at e sets
sets_last s bodies start (Cond c answer ∷ h) w numbers at sets e =
    option_and_then_some (interleaved_step s bodies (Cond c answer)) (interleaved s bodies start h) w e (λ v d f.
    sets_last s bodies start h v numbers at sets d ∙ sym (kind_sets-after_condition s c v.run)
    ∙ ap sets_of (provided-Some (has_tick v.run.state) (record { run = after_condition s c v.run; running_systems = v.running_systems }) w f).1)
sets_last s bodies start (Start n ∷ h) w numbers at sets e =
    option_and_then_some (interleaved_step s bodies (Start n)) (interleaved s bodies start h) w e (λ v d f.
    sets_last s bodies start h v numbers at sets d ∙ sym (kind_sets-after_start s n v.run)
    ∙ ap sets_of (provided-Some (can_start v.run) (record { run = after_start s n v.run; running_systems = v.running_systems ++ started_system s n v.run ∷ [] }) w f).1)
sets_last s bodies start (Skip n ∷ h) w numbers at sets e =
    option_and_then_some (interleaved_step s bodies (Skip n)) (interleaved s bodies start h) w e (λ v d f.
    sets_last s bodies start h v numbers at sets d ∙ ap sets_of (same_Some v w f))
sets_last s bodies start (Finish n ∷ h) w numbers at sets e =
    option_and_then_some (interleaved_step s bodies (Finish n)) (interleaved s bodies start h) w e (λ v d f.
    option_and_then_some (λ p. with_running_systems (without_system n v.running_systems) (finish s bodies p v.run)) (running_system n v.running_systems) w f (λ p i g.
    let r : (run : RunState) × (finish s bodies p v.run ≡ Some run) × (record { run = run; running_systems = without_system n v.running_systems } ≡ w)
    = with_running_systems-Some (without_system n v.running_systems) (finish s bodies p v.run) w g in
    sets_last s bodies start h v numbers at sets d ∙ sym (kind_sets-finish s bodies p v.run r.0 r.1) ∙ ap sets_of r.2))
sets_last s bodies start (Sync k ∷ h) w numbers at sets e = subst₂ AreSetsOf at e sets.0
