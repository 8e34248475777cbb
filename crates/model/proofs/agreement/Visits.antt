-- A visit: what an observer does to a state when it runs whole at a tick. A visit but for stamps, and two visits that touch
-- nothing in common, in either order.
use Rattle.std.proofs.Common.{ℕ, zero, suc, ℤ, ◌≡◌, List, [], ◌∷◌, map, Option, Some, None, refl, sym, ap, ap₂, ◌∙◌}
use Rattle.std.proofs.lemmas.Bool.{or_left}
use Rattle.model.specs.Lists.{map_index, update_at}
use Rattle.model.specs.state.State.{Slot, Component, Cell, Resource, EventQueue, Memory, State}
use Rattle.model.specs.shown.Input.{end_cursors}
use Rattle.model.specs.shown.Outcome.{Command, value_written, events_sent}
use Rattle.model.specs.shown.Overlay.{cell_after, row_after, slot_after, slots_after, resource_after, resources_after, queues_after}
use Rattle.model.specs.steps.Schedule.{Schedule, params_of, access_of}
use Rattle.model.specs.runs.RunState.{memory_after_run, with_registers}
use Rattle.model.specs.state.Agreement.{Observer, access_of_observer, without_stamps, component_without_stamps, slot_without_stamps, resource_without_stamp, memory_without_last_run, cell_without_stamps}
use Rattle.model.specs.state.Agreement.Observer.{OfSystem, OfCondition}
use Rattle.model.proofs.lists.Lists.{update_at-comm, has-IsIn}
use Rattle.model.proofs.serial.Conflicts.{WritesWithin, one_writer, one_setter, one_sender, unread_event}
use Rattle.model.proofs.serial.Writes.{slots_after-comm}
use Rattle.model.proofs.serial.Uses.{resources_after-comm, queues_after-comm, queue_of-queues_after, end_cursors-same}
use Rattle.model.proofs.agreement.Swaps.{AreApart}

-- what a visit leaves: the words written by index and kind, the values and events by place in its parameters, its commands, its registers.
-- The commands are no part of the state
pub record Effect : Type 0 where
  pub words : ℕ → ℕ → Option (List ℤ)
  pub values : List (Option ℤ)
  pub sent : List (List ℤ)
  pub commands : List Command
  pub registers : List ℤ

-- the memories of systems after a visit
abbrev pub systems_after : ℕ → Schedule → Observer → Effect → State → List Memory
systems_after t s (OfSystem n) e w = update_at n (λ m. with_registers e.registers (memory_after_run t (params_of s n).reads w.events m)) w.systems
systems_after t s (OfCondition c) e w = w.systems

-- the memories of conditions after a visit
abbrev pub conditions_after : ℕ → Schedule → Observer → State → List Memory
conditions_after t s (OfSystem n) w = w.conditions
conditions_after t s (OfCondition c) w = update_at c (memory_after_run t (access_of s c).reads w.events) w.conditions

-- the values that a visit writes, and the events that it sends
abbrev pub values_of : Schedule → Observer → Effect → ℕ → Option ℤ
values_of s a e = value_written (access_of_observer s a).res_mut e.values

abbrev pub sent_of : Schedule → Observer → Effect → ℕ → List ℤ
sent_of s a e = events_sent (access_of_observer s a).writes e.sent

-- the state after a visit at a tick
abbrev pub visit : ℕ → Schedule → Observer → Effect → State → State
visit t s a e w = record {
  world = record {
    slots = slots_after t e.words w.world.slots;
    resources = resources_after t (values_of s a e) w.world.resources;
    clock = suc w.world.clock;
  };
  events = queues_after (sent_of s a e) w.events;
  systems = systems_after t s a e w;
  conditions = conditions_after t s a w;
  passed_over = w.passed_over;
}

-- the state after a visit at the next tick
abbrev pub come : Schedule → Observer → Effect → State → State
come s a e w = visit (suc w.world.clock) s a e w

-- what a visit writes to components is within the queries of its access
abbrev pub Fits : Schedule → Observer → Effect → List Slot → Type 0
Fits s a e slots = WritesWithin None (access_of_observer s a).queries slots e.words

-- ---- lists

-- a view of a list with a change at each index
pub map-map_index : {A B : Type 0} (h : A → B) (f : ℕ → A → A) (g : ℕ → B → B) (xs : List A)
    → ((i : ℕ) (x : A) → h (f i x) ≡ g i (h x)) → map h (map_index f xs) ≡ map_index g (map h xs)
map-map_index h f g [] e = refl
map-map_index h f g (x ∷ xs) e = ap₂ ◌∷◌ (e zero x) (map-map_index h (λ i. f (suc i)) (λ i. g (suc i)) xs (λ i. e (suc i)))

-- a view of a list with a change at one index
pub map-update_at : {A B : Type 0} (h : A → B) (n : ℕ) (f : A → A) (g : B → B) (xs : List A)
    → ((x : A) → h (f x) ≡ g (h x)) → map h (update_at n f xs) ≡ update_at n g (map h xs)
map-update_at h n f g [] e = refl
map-update_at h zero f g (x ∷ xs) e = ap (λ y. y ∷ map h xs) (e x)
map-update_at h (suc n) f g (x ∷ xs) e = ap (λ ys. h x ∷ ys) (map-update_at h n f g xs e)

-- two changes at one index are one
pub update_at-update_at : {A : Type 0} (n : ℕ) (f g : A → A) (xs : List A) → update_at n f (update_at n g xs) ≡ update_at n (λ x. f (g x)) xs
update_at-update_at n f g [] = refl
update_at-update_at zero f g (x ∷ xs) = refl
update_at-update_at (suc n) f g (x ∷ xs) = ap (λ ys. x ∷ ys) (update_at-update_at n f g xs)

-- ---- but for stamps

-- a cell after a write, but for stamps
cell-visit : (t : ℕ) (words : Option (List ℤ)) (c : Cell) → cell_without_stamps (cell_after t words c) ≡ cell_after 0 words (cell_without_stamps c)
cell-visit t None c = refl
cell-visit t (Some words) c = refl

-- a row
row-visit : (t : ℕ) (f : ℕ → Option (List ℤ)) (row : List Component) → map component_without_stamps (row_after t f row) ≡ row_after 0 f (map component_without_stamps row)
row-visit t f [] = refl
row-visit t f (c ∷ cs) = λ i. record { kind = c.kind; cell = cell-visit t (f c.kind) c.cell i } ∷ row-visit t f cs i

-- slots
slots-visit : (t : ℕ) (f : ℕ → ℕ → Option (List ℤ)) (slots : List Slot) → map slot_without_stamps (slots_after t f slots) ≡ slots_after 0 f (map slot_without_stamps slots)
unfolding slots_after
slots-visit t f slots = map-map_index slot_without_stamps (λ i. slot_after t (f i)) (λ i. slot_after 0 (f i)) slots
    (λ i slot. λ j. record { generation = slot.generation; status = slot.status; row = row-visit t (f i) slot.row j })

-- resources
resource-visit : (t : ℕ) (v : Option ℤ) (r : Resource) → resource_without_stamp (resource_after t v r) ≡ resource_after 0 v (resource_without_stamp r)
resource-visit t None r = refl
resource-visit t (Some v) r = refl

resources-visit : (t : ℕ) (f : ℕ → Option ℤ) (rs : List Resource) → map resource_without_stamp (resources_after t f rs) ≡ resources_after 0 f (map resource_without_stamp rs)
unfolding resources_after
resources-visit t f rs = map-map_index resource_without_stamp (λ i. resource_after t (f i)) (λ i. resource_after 0 (f i)) rs (λ i r. resource-visit t (f i) r)

-- memories
systems-visit : (t : ℕ) (s : Schedule) (a : Observer) (e : Effect) (w : State) → map memory_without_last_run (systems_after t s a e w) ≡ systems_after 0 s a e (without_stamps w)
systems-visit t s (OfSystem n) e w = map-update_at memory_without_last_run n
    (λ m. with_registers e.registers (memory_after_run t (params_of s n).reads w.events m))
    (λ m. with_registers e.registers (memory_after_run 0 (params_of s n).reads w.events m)) w.systems (λ m. refl)
systems-visit t s (OfCondition c) e w = refl

conditions-visit : (t : ℕ) (s : Schedule) (a : Observer) (w : State) → map memory_without_last_run (conditions_after t s a w) ≡ conditions_after 0 s a (without_stamps w)
conditions-visit t s (OfSystem n) w = refl
conditions-visit t s (OfCondition c) w = map-update_at memory_without_last_run c
    (memory_after_run t (access_of s c).reads w.events) (memory_after_run 0 (access_of s c).reads w.events) w.conditions (λ m. refl)

-- a visit but for stamps is a visit at tick 0 of the state but for stamps
pub without_stamps-visit : (t : ℕ) (s : Schedule) (a : Observer) (e : Effect) (w : State) → without_stamps (visit t s a e w) ≡ visit 0 s a e (without_stamps w)
without_stamps-visit t s a e w = λ i. record {
  world = record {
    slots = slots-visit t e.words w.world.slots i;
    resources = resources-visit t (values_of s a e) w.world.resources i;
    clock = suc w.world.clock;
  };
  events = queues_after (sent_of s a e) w.events;
  systems = systems-visit t s a e w i;
  conditions = conditions-visit t s a w i;
  passed_over = w.passed_over;
}

-- ---- two visits

-- the ends of an observer's queues are the same after a visit apart from it
pub cursors-visit : (s : Schedule) (a b : Observer) (e : Effect) (queues : List EventQueue) → AreApart s a b →
    end_cursors (queues_after (sent_of s a e) queues) (access_of_observer s b).reads ≡ end_cursors queues (access_of_observer s b).reads
cursors-visit s a b e queues h = end_cursors-same _ _ _ (λ k i. queue_of-queues_after (sent_of s a e) queues k
    (unread_event None (access_of_observer s a) (access_of_observer s b) e.sent k h.apart (or_left _ _ (has-IsIn k (access_of_observer s b).reads i))))

-- the memories of systems after two visits that are apart, in either order
systems-swap : (t u : ℕ) (s : Schedule) (a b : Observer) (e f : Effect) (w : State) → AreApart s a b → AreApart s b a
    → systems_after u s b f (visit t s a e w) ≡ systems_after t s a e (visit u s b f w)
systems-swap t u s (OfSystem m) (OfSystem n) e f w h g =
    ap (λ (cursors : List ℕ). update_at n (λ (x : Memory). record { last_run = u; cursors = cursors; registers = f.registers }) (systems_after t s (OfSystem m) e w))
    (cursors-visit s (OfSystem m) (OfSystem n) e w.events h)
    ∙ (update_at-comm n m _ _ w.systems (λ q. h.differ (ap OfSystem (sym q)))
    ∙ ap (λ (cursors : List ℕ). update_at m (λ (x : Memory). record { last_run = t; cursors = cursors; registers = e.registers }) (systems_after u s (OfSystem n) f w))
    (sym (cursors-visit s (OfSystem n) (OfSystem m) f w.events g)))
systems-swap t u s (OfSystem m) (OfCondition c) e f w h g =
    ap (λ (cursors : List ℕ). update_at m (λ (x : Memory). record { last_run = t; cursors = cursors; registers = e.registers }) w.systems)
    (sym (cursors-visit s (OfCondition c) (OfSystem m) f w.events g))
systems-swap t u s (OfCondition c) (OfSystem n) e f w h g =
    ap (λ (cursors : List ℕ). update_at n (λ (x : Memory). record { last_run = u; cursors = cursors; registers = f.registers }) w.systems)
    (cursors-visit s (OfCondition c) (OfSystem n) e w.events h)
systems-swap t u s (OfCondition c) (OfCondition d) e f w h g = refl

-- the memories of conditions
conditions-swap : (t u : ℕ) (s : Schedule) (a b : Observer) (e f : Effect) (w : State) → AreApart s a b → AreApart s b a
    → conditions_after u s b (visit t s a e w) ≡ conditions_after t s a (visit u s b f w)
conditions-swap t u s (OfCondition m) (OfCondition n) e f w h g =
    ap (λ (cursors : List ℕ). update_at n (λ (x : Memory). record { last_run = u; cursors = cursors; registers = x.registers }) (conditions_after t s (OfCondition m) w))
    (cursors-visit s (OfCondition m) (OfCondition n) e w.events h)
    ∙ (update_at-comm n m _ _ w.conditions (λ q. h.differ (ap OfCondition (sym q)))
    ∙ ap (λ (cursors : List ℕ). update_at m (λ (x : Memory). record { last_run = t; cursors = cursors; registers = x.registers }) (conditions_after u s (OfCondition n) w))
    (sym (cursors-visit s (OfCondition n) (OfCondition m) f w.events g)))
conditions-swap t u s (OfCondition m) (OfSystem c) e f w h g =
    ap (λ (cursors : List ℕ). update_at m (λ (x : Memory). record { last_run = t; cursors = cursors; registers = x.registers }) w.conditions)
    (sym (cursors-visit s (OfSystem c) (OfCondition m) f w.events g))
conditions-swap t u s (OfSystem c) (OfCondition n) e f w h g =
    ap (λ (cursors : List ℕ). update_at n (λ (x : Memory). record { last_run = u; cursors = cursors; registers = x.registers }) w.conditions)
    (cursors-visit s (OfSystem c) (OfCondition n) e w.events h)
conditions-swap t u s (OfSystem c) (OfSystem d) e f w h g = refl

-- two visits that are apart, each at its own tick, in either order
pub visit-swap : (t u : ℕ) (s : Schedule) (a b : Observer) (e f : Effect) (w : State) → AreApart s a b → AreApart s b a
    → Fits s a e w.world.slots → Fits s b f w.world.slots → visit u s b f (visit t s a e w) ≡ visit t s a e (visit u s b f w)
visit-swap t u s a b e f w h g fit other = λ i. record {
  world = record {
    slots = slots_after-comm u t f.words e.words w.world.slots (one_writer None _ _ w.world.slots f.words e.words g.apart other fit) i;
    resources = resources_after-comm u t (values_of s b f) (values_of s a e) w.world.resources (λ n. one_setter None _ _ f.values e.values n g.apart) i;
    clock = suc (suc w.world.clock);
  };
  events = queues_after-comm (sent_of s b f) (sent_of s a e) w.events (λ k. one_sender None _ _ f.sent e.sent k g.apart) i;
  systems = systems-swap t u s a b e f w h g i;
  conditions = conditions-swap t u s a b e f w h g i;
  passed_over = w.passed_over;
}
