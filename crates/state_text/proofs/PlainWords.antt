-- All words of the text of a state are plain: they have a byte, and none that isn't above a space.
use Rattle.std.proofs.Common.{◌≡◌, ℕ, suc, ◌+◌, ◌<◌, ◌≤◌, ◌^◌, ℤ, pos, negsuc, Bool, true, nat_lt, ◌&&◌, List, [], ◌∷◌, length, map, get_or, codes, length-append, refl, ap, arith, rules, w64}
use Rattle.std.proofs.lemmas.Bool.{and_parts, ltb-true}
use Rattle.std.proofs.lemmas.Fmt.{decimal_nonempty}
use Rattle.std.specs.Fmt.{decimal, signed_decimal}
use Rattle.std.specs.Prelude.{FitsSigned}
use Rattle.std.specs.Int.Signed.{mag}
use Rattle.std.specs.List.{AllByRecursion, list_all}
use Rattle.kinds.specs.declared.res.Res.{Res}
use Rattle.kinds.specs.declared.res.Res.TheVariants as res
use Rattle.kinds.specs.declared.res.Event.{Event}
use Rattle.kinds.specs.declared.res.Event.TheVariants as event
use Rattle.kinds.specs.Kind.{kind_count, name_of_kind}
use Rattle.kinds.specs.Components.{widths}
use Rattle.kinds.specs.Res.{res_number, res_name, every_res, event_number, event_name}
use Rattle.model.specs.state.State.{Component, Status, Slot, Resource, Event as KeptEvent, EventQueue, Memory, State, no_resource, empty_queue, last_tick, most_indices}
use Rattle.model.specs.state.State.Status.{Vacant, Granted, Living, Retired}
use Rattle.model.specs.state.Events.{queue_of}
use Rattle.model.specs.state.Shape.{IsComponent, IsSlot, IsQueue}
use Rattle.model.proofs.lists.Each.{each-append, each-map}
use Rattle.body.specs.Steps.{IsMemoryAt, HasShape}
use Rattle.state_text.specs.Laws.{FitsComponent, FitsMemory, Fits}
use Rattle.state_text.specs.StateText.{every_event, status_name}
use Rattle.state_text.specs.LineWords.{IsPlain, IsResourceAt, IsSlotAt, head_words, count_words, resource_words, event_words, memory_words, component_words, row_words, id_word, slot_words, slots_before, memories_before, resources_before, queues_before, lines_of}
use Rattle.state_text.proofs.Cuts.{in_word, digits, signed, at}
use Rattle.state_text.proofs.KindNames.{at_below}
use Rattle.state_text.proofs.KeptValues.{values_fit}
use Rattle.state_text.proofs.OneLine.{IsQueueOf64}
use Rattle.state_text.proofs.OneSlot.{both, passes_from}

-- ---- words

-- a word of which it is tested
abbrev is_plain : List ℕ → Bool
is_plain word = nat_lt 0 (length word) && list_all in_word word

tested : (word : List ℕ) → is_plain word ≡ true → IsPlain word
tested word h =
    let parts = and_parts (nat_lt 0 (length word)) (list_all in_word word) h in
    (λ e. let some = ltb-true 0 (length word) parts.0 in let none = ap length e in omega (arith, some, none), passes_from word parts.1)

plain_res : (r : Res) → IsPlain (res_name r)
plain_res res.Round = tested (codes "Round") refl
plain_res res.Gravity = tested (codes "Gravity") refl
plain_res res.Total = tested (codes "Total") refl
plain_res res.Seed = tested (codes "Seed") refl
plain_res res.Limit = tested (codes "Limit") refl
plain_res res.Alarm = tested (codes "Alarm") refl
plain_res res.Mode = tested (codes "Mode") refl
plain_res res.Step = tested (codes "Step") refl

plain_event : (e : Event) → IsPlain (event_name e)
plain_event event.Hit = tested (codes "Hit") refl
plain_event event.Heal = tested (codes "Heal") refl
plain_event event.Spark = tested (codes "Spark") refl
plain_event event.Done = tested (codes "Done") refl

plain_status : (status : Status) → IsPlain (status_name status)
plain_status Vacant = tested (codes "vacant") refl
plain_status Granted = tested (codes "granted") refl
plain_status Living = tested (codes "live") refl
plain_status Retired = tested (codes "retired") refl

plain_kind : (kind : ℕ) → kind < kind_count → IsPlain (name_of_kind kind)
plain_kind kind low = tested (name_of_kind kind) (at_below (λ n. is_plain (name_of_kind n)) kind_count kind refl low)

plain_number : (n : ℕ) → n < 2 ^ 64 → IsPlain (decimal n)
plain_number n low = (λ e. let some = decimal_nonempty n low in let none = ap length e in omega (arith, some, none), digits n low)

plain_magnitude : (z : ℤ) → mag z < 2 ^ 63 → IsPlain (signed_decimal z)
plain_magnitude (pos n) low = plain_number n (omega (arith, low))
plain_magnitude (negsuc n) low = (λ e. let none = ap length e in omega (arith, none), signed (negsuc n) low)

plain_integer : (z : ℤ) → FitsSigned w64 z → IsPlain (signed_decimal z)
plain_integer z fits = plain_magnitude z (search rules)

plain_id : (index generation : ℕ) → index < 2 ^ 64 → generation < 2 ^ 64 → IsPlain (id_word index generation)
plain_id index generation low few = (
  λ e. let some = length-append (decimal index) (118 ∷ decimal generation) in let none = ap length e in omega (arith, some, none),
  each-append (λ b. in_word b ≡ true) (decimal index) (118 ∷ decimal generation) (digits index low) (refl, digits generation few),
)

-- ---- lines

abbrev ArePlain : List (List ℕ) → Type 0
ArePlain line = AllByRecursion IsPlain line

integers : (zs : List ℤ) → AllByRecursion (FitsSigned w64) zs → ArePlain (map signed_decimal zs)
integers zs h = each-map (FitsSigned w64) IsPlain signed_decimal plain_integer zs h

plain_resource : (clock : ℕ) → clock ≤ last_tick → (r : Res) (x : Resource) → IsResourceAt clock x → ArePlain (resource_words r x)
plain_resource clock most r x h = let past = h.1 in (plain_res r, (plain_integer x.value h.0, (plain_number x.changed (omega (arith, past, most)), tt)))

plain_queue : (kind : Event) (q : EventQueue) → IsQueue q → AllByRecursion (λ (e : KeptEvent). FitsSigned w64 e.value) q.kept → ArePlain (event_words kind q)
plain_queue kind q h fits =
    let newer = h.newer in
    let most = h.most in
    (plain_event kind, (plain_number q.newer (omega (arith, newer, most)), (plain_number q.next (omega (arith, most)), integers (map (λ e. e.value) q.kept) (values_fit q.kept fits))))

plain_memory : (clock : ℕ) → clock ≤ last_tick → (name : List ℕ) → IsPlain name → (m : Memory) → IsMemoryAt clock m → FitsMemory m → ArePlain (memory_words name m)
plain_memory clock most name plain m h fits =
    let last = h.last_run in (
      plain,
      (
        plain_number m.last_run (omega (arith, last, most)),
        each-append IsPlain (map signed_decimal m.registers) (map decimal m.cursors) (integers m.registers fits.registers) (each-map (λ n. n < 2 ^ 64) IsPlain decimal plain_number m.cursors fits.cursors),
      ),
    )

plain_row : (clock : ℕ) → clock ≤ last_tick → (cs : List Component) → AllByRecursion (IsComponent widths clock) cs → AllByRecursion FitsComponent cs → ArePlain (row_words cs)
plain_row clock most [] h fits = tt
plain_row clock most (c ∷ cs) h fits =
    let added = h.0.added in
    let changed = h.0.changed in
    each-append IsPlain (component_words c) (row_words cs)
    (plain_kind c.kind fits.0.kind, (plain_number c.cell.added (omega (arith, added, most)), (plain_number c.cell.changed (omega (arith, changed, most)), integers c.cell.words fits.0.words)))
    (plain_row clock most cs h.1 fits.1)

plain_slot : (clock : ℕ) → clock ≤ last_tick → (index : ℕ) (s : Slot) → index < most_indices → IsSlotAt clock s → ArePlain (slot_words index s)
plain_slot clock most index s low h =
    let last = h.0.most in
    (plain_status s.status, (plain_id index s.generation (omega (arith, low)) (omega (arith, last)), plain_row clock most s.row h.0.components h.1))

-- ---- all lines

abbrev AllPlain : List (List (List ℕ)) → Type 0
AllPlain lines = AllByRecursion ArePlain lines

slots : (clock : ℕ) → clock ≤ last_tick → (index : ℕ) (list : List Slot) → index + length list ≤ most_indices → AllByRecursion (IsSlotAt clock) list → AllPlain (slots_before index list [])
slots clock most index [] room h = tt
slots clock most index (s ∷ list) room h = (plain_slot clock most index s (omega (arith, room)) h.0, slots clock most (suc index) list (omega (arith, room)) h.1)

memories : (clock : ℕ) → clock ≤ last_tick → (name : List ℕ) → IsPlain name → (ms : List Memory) → AllByRecursion (IsMemoryAt clock) ms → AllByRecursion FitsMemory ms
    → (more : List (List (List ℕ))) → AllPlain more → AllPlain (memories_before name ms more)
memories clock most name plain [] h fits more rest = rest
memories clock most name plain (m ∷ ms) h fits more rest = (plain_memory clock most name plain m h.0 fits.0, memories clock most name plain ms h.1 fits.1 more rest)

resources : (clock : ℕ) → clock ≤ last_tick → (rs : List Resource) → AllByRecursion (IsResourceAt clock) rs → (list : List Res) (more : List (List (List ℕ))) → AllPlain more
    → AllPlain (resources_before rs list more)
resources clock most rs h [] more rest = rest
resources clock most rs h (r ∷ list) more rest = (
  plain_resource clock most r (get_or rs (res_number r) no_resource) (at (IsResourceAt clock) no_resource rs (res_number r) (search rules, omega arith) h),
  resources clock most rs h list more rest,
)

queues : (qs : List EventQueue) → AllByRecursion IsQueueOf64 qs → (list : List Event) (more : List (List (List ℕ))) → AllPlain more → AllPlain (queues_before qs list more)
queues qs h [] more rest = rest
queues qs h (kind ∷ list) more rest =
    let none : IsQueueOf64 empty_queue = (record { from = 0; numbered = refl; older = omega arith; newer = omega arith; most = omega arith }, tt) in
    let q = at IsQueueOf64 empty_queue qs (event_number kind) none h in
    (plain_queue kind (queue_of qs (event_number kind)) q.0 q.1, queues qs h list more rest)

-- those behind the first three, of any lists of resources and of event kinds
plain_rest : (w : State) → HasShape w → Fits w → (list : List Res) (kinds : List Event) (name name' : List ℕ) → IsPlain name → IsPlain name'
    → AllPlain (resources_before w.world.resources list (queues_before w.events kinds (memories_before name w.systems (memories_before name' w.conditions (slots_before 0 w.world.slots [])))))
plain_rest w h fits list kinds name name' plain plain' =
    let most = h.world.clock_most in
    let few = h.world.few in
    resources w.world.clock most w.world.resources (both (λ r. FitsSigned w64 r.value) (λ r. r.changed ≤ w.world.clock) w.world.resources fits.resources h.world.resources) list _
    (queues w.events (both IsQueue (λ q. AllByRecursion (λ (e : KeptEvent). FitsSigned w64 e.value) q.kept) w.events h.queues fits.events) kinds _
    (memories w.world.clock most name plain w.systems h.memories.systems_in fits.systems _
    (memories w.world.clock most name' plain' w.conditions h.memories.conditions_in fits.conditions _
    (slots w.world.clock most 0 w.world.slots (omega (arith, few)) (both (IsSlot widths w.world.clock) (λ slot. AllByRecursion FitsComponent slot.row) w.world.slots h.world.slots fits.components)))))

plain_head : (systems conditions slots : ℕ) → systems < 2 ^ 64 → conditions < 2 ^ 64 → slots < 2 ^ 64 → ArePlain (head_words systems conditions slots)
plain_head systems conditions slots low lower lowest =
    (tested (codes "state") refl, (tested (codes "1") refl, (plain_number systems low, (plain_number conditions lower, (plain_number slots lowest, tt)))))

plain_count : (name : List ℕ) → IsPlain name → (count : ℕ) → count < 2 ^ 64 → ArePlain (count_words name count)
plain_count name plain count low = (plain, (plain_number count low, tt))

pub plain_lines : (w : State) → HasShape w → Fits w → AllPlain (lines_of w)
plain_lines w h fits =
    let most = h.world.clock_most in
    let few = h.world.few in
    let passed = h.passed_over in (
      plain_head (length w.systems) (length w.conditions) (length w.world.slots) fits.few_systems fits.few_conditions (omega (arith, few)),
      (
        plain_count (codes "clock") (tested (codes "clock") refl) w.world.clock (omega (arith, most)),
        (
          plain_count (codes "passed") (tested (codes "passed") refl) w.passed_over (omega (arith, passed)),
          plain_rest w h fits every_res every_event (codes "system") (codes "condition") (tested (codes "system") refl) (tested (codes "condition") refl),
        ),
      ),
    )
