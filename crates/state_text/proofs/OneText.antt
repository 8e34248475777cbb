-- States of one text are one, and those of one text of values are equal without their stamps.
use Rattle.std.proofs.Common.{◌≡◌, ℕ, zero, suc, ◌<◌, ◌≤◌, ◌^◌, List, [], ◌∷◌, ◌++◌, length, map, get_or, codes, append-nil, refl, sym, subst, ◌∙◌, arith, rules, w64}
use Rattle.std.proofs.lemmas.List.{ext_get_or, length-map}
use Rattle.std.proofs.Math.ListN.{get_or-map}
use Rattle.std.specs.List.{AllByRecursion}
use Rattle.std.specs.Prelude.{FitsSigned}
use Rattle.kinds.specs.declared.res.Res.{Res}
use Rattle.kinds.specs.declared.res.Event.{Event as EventKind}
use Rattle.kinds.specs.Res.{res_number, every_res, event_number}
use Rattle.kinds.specs.Components.{widths}
use Rattle.model.specs.state.State.{Resource, Event, EventQueue, Memory, State, no_resource, empty_queue, last_tick, resource_count, event_count}
use Rattle.model.specs.state.Events.{queue_of}
use Rattle.model.specs.state.Shape.{IsSlot, IsQueue}
use Rattle.body.specs.Steps.{IsMemoryAt, HasShape}
use Rattle.state_text.specs.declared.form.Form.{Form}
use Rattle.state_text.specs.declared.form.Form.TheVariants.{Whole, Values}
use Rattle.state_text.specs.Laws.{FitsComponent, FitsMemory, Fits, StatesHaveOneText, ValuesHaveOneText}
use Rattle.state_text.specs.StateText.{form_name, head_line, count_line, resource_lines, every_event, event_lines, memory_line, memory_lines, text_in}
use Rattle.state_text.specs.LineWords.{IsResourceAt, IsSlotAt}
use Rattle.state_text.proofs.Cuts.{Cut, Any, same, behind, told, join, number, at, by_count, map_same}
use Rattle.state_text.proofs.OneLine.{end, kept_memory, memory, kept_resource, resource, IsQueueOf64, queue}
use Rattle.state_text.proofs.OneSlot.{kept_component, kept_slot, both, slots}

-- ---- resources and events

resources_each : (form : Form) (clock : ℕ) → clock ≤ last_tick → (qs rs : List Resource) → AllByRecursion (IsResourceAt clock) qs → AllByRecursion (IsResourceAt clock) rs
    → (list : List Res) → Cut Any (resource_lines form qs list) (resource_lines form rs list)
    (AllByRecursion (λ res. kept_resource form (get_or qs (res_number res) no_resource) ≡ kept_resource form (get_or rs (res_number res) no_resource)) list)
resources_each form clock most qs rs iq ir [] = same []
resources_each form clock most qs rs iq ir (res ∷ list) =
    let none : IsResourceAt clock no_resource = (search rules, omega arith) in
    join (resource form clock most res (get_or qs (res_number res) no_resource) (get_or rs (res_number res) no_resource)
    (at (IsResourceAt clock) no_resource qs (res_number res) none iq) (at (IsResourceAt clock) no_resource rs (res_number res) none ir))
    (λ s a. tt) (λ s a. tt) (λ _. resources_each form clock most qs rs iq ir list)

eight : {X : Type 0} (x y : ℕ → X) → AllByRecursion (λ res. x (res_number res) ≡ y (res_number res)) every_res → (i : ℕ) → i < 8 → x i ≡ y i
eight x y h zero low = h.0
eight x y h (suc zero) low = h.1.0
eight x y h (suc (suc zero)) low = h.1.1.0
eight x y h (suc (suc (suc zero))) low = h.1.1.1.0
eight x y h (suc (suc (suc (suc zero)))) low = h.1.1.1.1.0
eight x y h (suc (suc (suc (suc (suc zero))))) low = h.1.1.1.1.1.0
eight x y h (suc (suc (suc (suc (suc (suc zero)))))) low = h.1.1.1.1.1.1.0
eight x y h (suc (suc (suc (suc (suc (suc (suc zero))))))) low = h.1.1.1.1.1.1.1.0
eight x y h (suc (suc (suc (suc (suc (suc (suc (suc i)))))))) low = absurd (omega (arith, low))

resources : (form : Form) (clock : ℕ) → clock ≤ last_tick → (qs rs : List Resource) → length qs ≡ resource_count → length rs ≡ resource_count
    → AllByRecursion (IsResourceAt clock) qs → AllByRecursion (IsResourceAt clock) rs
    → Cut Any (resource_lines form qs every_res) (resource_lines form rs every_res) (map (kept_resource form) qs ≡ map (kept_resource form) rs)
resources form clock most qs rs many many' iq ir = told (resources_each form clock most qs rs iq ir every_res)
    (λ each. ext_get_or (kept_resource form no_resource) (map (kept_resource form) qs) (map (kept_resource form) rs)
    (length-map qs (kept_resource form) ∙ many ∙ sym many' ∙ sym (length-map rs (kept_resource form)))
    (λ i low. get_or-map (kept_resource form) qs i no_resource
    ∙ eight (λ n. kept_resource form (get_or qs n no_resource)) (λ n. kept_resource form (get_or rs n no_resource)) each i
    (let l = length-map qs (kept_resource form) in omega (arith, low, many, l)) ∙ sym (get_or-map (kept_resource form) rs i no_resource)))

queues_each : (qs rs : List EventQueue) → AllByRecursion IsQueueOf64 qs → AllByRecursion IsQueueOf64 rs → (list : List EventKind)
    → Cut Any (event_lines qs list) (event_lines rs list) (AllByRecursion (λ kind. queue_of qs (event_number kind) ≡ queue_of rs (event_number kind)) list)
queues_each qs rs iq ir [] = same []
queues_each qs rs iq ir (kind ∷ list) =
    let none : IsQueueOf64 empty_queue = (record { from = 0; numbered = refl; older = omega arith; newer = omega arith; most = omega arith }, tt) in
    join (queue kind (queue_of qs (event_number kind)) (queue_of rs (event_number kind))
    (at IsQueueOf64 empty_queue qs (event_number kind) none iq) (at IsQueueOf64 empty_queue rs (event_number kind) none ir))
    (λ s a. tt) (λ s a. tt) (λ _. queues_each qs rs iq ir list)

four : {X : Type 0} (x y : ℕ → X) → AllByRecursion (λ kind. x (event_number kind) ≡ y (event_number kind)) every_event → (i : ℕ) → i < 4 → x i ≡ y i
four x y h zero low = h.0
four x y h (suc zero) low = h.1.0
four x y h (suc (suc zero)) low = h.1.1.0
four x y h (suc (suc (suc zero))) low = h.1.1.1.0
four x y h (suc (suc (suc (suc i)))) low = absurd (omega (arith, low))

queues : (qs rs : List EventQueue) → length qs ≡ event_count → length rs ≡ event_count → AllByRecursion IsQueueOf64 qs → AllByRecursion IsQueueOf64 rs
    → Cut Any (event_lines qs every_event) (event_lines rs every_event) (qs ≡ rs)
queues qs rs many many' iq ir = told (queues_each qs rs iq ir every_event)
    (λ each. ext_get_or empty_queue qs rs (many ∙ sym many') (λ i low. four (queue_of qs) (queue_of rs) each i (omega (arith, low, many))))

-- ---- the whole

counted : (name : List ℕ) (m n : ℕ) → m < 2 ^ 64 → n < 2 ^ 64 → Cut Any (count_line name m) (count_line name n) (m ≡ n)
counted name m n low low' =
    told (join (join (same name) (λ s a. tt) (λ s a. tt) (λ _. behind 32 (number m n low low'))) (λ s a. refl) (λ s a. refl) (λ _. end)) (λ p. p.0.1)

-- what holds of a memory of a state
abbrev IsMemoryOf64 : ℕ → Memory → Type 0
IsMemoryOf64 clock m = IsMemoryAt clock m × FitsMemory m

memories : (form : Form) (clock : ℕ) → clock ≤ last_tick → (name : List ℕ) (ms ns : List Memory) → length ms ≡ length ns
    → AllByRecursion (IsMemoryOf64 clock) ms → AllByRecursion (IsMemoryOf64 clock) ns
    → Cut Any (memory_lines form name ms) (memory_lines form name ns) (map (kept_memory form) ms ≡ map (kept_memory form) ns)
memories form clock most name =
    by_count (memory_line form name) (kept_memory form) (IsMemoryOf64 clock) (λ m n im in_. memory form clock most name m n im.0 in_.0 im.1 in_.1) (λ m s a. tt)

head : (form : Form) (v w : State) → HasShape v → HasShape w → Fits v → Fits w → Cut Any (head_line form v) (head_line form w)
    ((length v.systems ≡ length w.systems) × (length v.conditions ≡ length w.conditions) × (length v.world.slots ≡ length w.world.slots))
head form v w sv sw fv fw =
    told (join (join (join (join (same (form_name form ++ codes " 1")) (λ s a. tt) (λ s a. tt)
    (λ _. behind 32 (number (length v.systems) (length w.systems) fv.few_systems fw.few_systems)))
    (λ s past. refl) (λ s past. refl) (λ _. behind 32 (number (length v.conditions) (length w.conditions) fv.few_conditions fw.few_conditions)))
    (λ s past. refl) (λ s past. refl) (λ _. behind 32 (number (length v.world.slots) (length w.world.slots)
    (let l = sv.world.few in omega (arith, l)) (let l = sw.world.few in omega (arith, l)))))
    (λ s a. refl) (λ s a. refl) (λ _. end))
    (λ p. (p.0.0.0.1, p.0.0.1, p.0.1))

-- what holds of the parts of a state, at a clock that is its own
resources_of : (w : State) (clock : ℕ) → w.world.clock ≡ clock → HasShape w → Fits w → AllByRecursion (IsResourceAt clock) w.world.resources
resources_of w clock same_clock s f =
    both (λ r. FitsSigned w64 r.value) (λ r. r.changed ≤ clock) w.world.resources f.resources (subst (λ c. AllByRecursion (λ (r : Resource). r.changed ≤ c) w.world.resources) same_clock s.world.resources)

queues_of : (w : State) → HasShape w → Fits w → AllByRecursion IsQueueOf64 w.events
queues_of w s f = both IsQueue (λ q. AllByRecursion (λ (e : Event). FitsSigned w64 e.value) q.kept) w.events s.queues f.events

systems_of : (w : State) (clock : ℕ) → w.world.clock ≡ clock → HasShape w → Fits w → AllByRecursion (IsMemoryOf64 clock) w.systems
systems_of w clock same_clock s f = both (IsMemoryAt clock) FitsMemory w.systems (subst (λ c. AllByRecursion (IsMemoryAt c) w.systems) same_clock s.memories.systems_in) f.systems

conditions_of : (w : State) (clock : ℕ) → w.world.clock ≡ clock → HasShape w → Fits w → AllByRecursion (IsMemoryOf64 clock) w.conditions
conditions_of w clock same_clock s f = both (IsMemoryAt clock) FitsMemory w.conditions (subst (λ c. AllByRecursion (IsMemoryAt c) w.conditions) same_clock s.memories.conditions_in) f.conditions

slots_of : (w : State) (clock : ℕ) → w.world.clock ≡ clock → HasShape w → Fits w → AllByRecursion (IsSlotAt clock) w.world.slots
slots_of w clock same_clock s f =
    both (IsSlot widths clock) (λ slot. AllByRecursion FitsComponent slot.row) w.world.slots (subst (λ c. AllByRecursion (IsSlot widths c) w.world.slots) same_clock s.world.slots) f.components

-- what a form keeps of a state
abbrev kept : Form → State → State
kept form w = record {
  world = record { slots = map (kept_slot form) w.world.slots; resources = map (kept_resource form) w.world.resources; clock = w.world.clock };
  events = w.events;
  systems = map (kept_memory form) w.systems;
  conditions = map (kept_memory form) w.conditions;
  passed_over = w.passed_over;
}

text : (form : Form) (v w : State) → HasShape v → HasShape w → Fits v → Fits w → Cut Any (text_in form v) (text_in form w) (kept form v ≡ kept form w)
unfolding text_in
text form v w sv sw fv fw =
    let now = v.world.clock in
    let most = sv.world.clock_most in
    told (join (join (join (join (join (join (join (head form v w sv sw fv fw) (λ s a. tt) (λ s a. tt)
    (λ _. counted (codes "clock") v.world.clock w.world.clock (omega (arith, most)) (let l = sw.world.clock_most in omega (arith, l))))
    (λ s a. tt) (λ s a. tt) (λ _. counted (codes "passed") v.passed_over w.passed_over (let l = sv.passed_over in omega (arith, l)) (let l = sw.passed_over in omega (arith, l))))
    (λ s a. tt) (λ s a. tt) (λ p. resources form now most v.world.resources w.world.resources sv.world.resource_number sw.world.resource_number
    (resources_of v now refl sv fv) (resources_of w now (sym p.0.1) sw fw)))
    (λ s a. tt) (λ s a. tt) (λ p. queues v.events w.events sv.queue_number sw.queue_number (queues_of v sv fv) (queues_of w sw fw)))
    (λ s a. tt) (λ s a. tt)
    (λ p. memories form now most (codes "system") v.systems w.systems p.0.0.0.0.0 (systems_of v now refl sv fv) (systems_of w now (sym p.0.0.0.1) sw fw)))
    (λ s a. tt) (λ s a. tt)
    (λ p. memories form now most (codes "condition") v.conditions w.conditions p.0.0.0.0.0.1 (conditions_of v now refl sv fv) (conditions_of w now (sym p.0.0.0.0.1) sw fw)))
    (λ s a. tt) (λ s a. tt)
    (λ p. slots form now most 0 v.world.slots w.world.slots p.0.0.0.0.0.0.2 (slots_of v now refl sv fv) (slots_of w now (sym p.0.0.0.0.0.1) sw fw)))
    (λ p i. record {
      world = record { slots = p.1 i; resources = p.0.0.0.0.1 i; clock = p.0.0.0.0.0.0.1 i };
      events = p.0.0.0.1 i;
      systems = p.0.0.1 i;
      conditions = p.0.1 i;
      passed_over = p.0.0.0.0.0.1 i;
    })

one_kept : (form : Form) (v w : State) → HasShape v → HasShape w → Fits v → Fits w → text_in form v ≡ text_in form w → kept form v ≡ kept form w
one_kept form v w sv sw fv fw same_text =
    ((text form v w sv sw fv fw).cut [] [] tt tt (append-nil (text_in form v) ∙ same_text ∙ sym (append-nil (text_in form w)))).0

-- the whole form keeps all
kept_whole : (w : State) → kept Whole w ≡ w
kept_whole w = λ i. record {
  world = record {
    slots = map_same (kept_slot Whole) (λ slot j. record { generation = slot.generation; status = slot.status; row = map_same (kept_component Whole) (λ c. refl) slot.row j }) w.world.slots i;
    resources = map_same (kept_resource Whole) (λ r. refl) w.world.resources i;
    clock = w.world.clock;
  };
  events = w.events;
  systems = map_same (kept_memory Whole) (λ m. refl) w.systems i;
  conditions = map_same (kept_memory Whole) (λ m. refl) w.conditions i;
  passed_over = w.passed_over;
}

pub one_text : StatesHaveOneText
one_text v w sv sw fv fw same_text = sym (kept_whole v) ∙ one_kept Whole v w sv sw fv fw same_text ∙ kept_whole w

pub one_values : ValuesHaveOneText
one_values v w sv sw fv fw same_text = one_kept Values v w sv sw fv fw same_text
