use Rattle.std.proofs.Common.{◌≡◌, [], ◌++◌, length, sym, ap, ◌∙◌, arith}
use Rattle.std.proofs.lemmas.Bool.{false≢true}
use Rattle.archetype_store.specs.Store.{with_slots}
use Rattle.body.specs.Steps.{counted_state}
use Rattle.state_text.specs.LineWords.{with_resources}
use Rattle.state_text.proofs.Passed.{passed}
use Rattle.state_text.proofs.StateRead.{empty_store, many_resources, resources_in, memories_in, room, slots_in, lines_in}
use Rattle.state_text.proofs.reading.state_of.Goals as goal

pub returns-in_err-head : goal.returns-in_err-head
returns-in_err-head c w h fits left =
    let few = h.world.few in
    passed (λ found. found ≡ w) _ _ c.from_residual.ensures.1 (c.in_err-head.ensures (length w.systems) (length w.conditions) (length w.world.slots) _ fits.few_systems fits.few_conditions (omega (arith, few)) left)

pub returns-in_err-clock : goal.returns-in_err-clock
returns-in_err-clock c w h fits left =
    let few = h.world.few in
    let head = c.in_ok-head.ensures (length w.systems) (length w.conditions) (length w.world.slots) _ fits.few_systems fits.few_conditions (omega (arith, few)) left in
    passed (λ found. found ≡ w) _ _ c.from_residual-in_err-clock.ensures.1 (c.in_err-clock.ensures.all w.world.clock _ h.world.clock_least h.world.clock_most head.1)

pub returns-in_err-passed_over : goal.returns-in_err-passed_over
returns-in_err-passed_over c w h fits left =
    let few = h.world.few in
    let head = c.in_ok-head.ensures (length w.systems) (length w.conditions) (length w.world.slots) _ fits.few_systems fits.few_conditions (omega (arith, few)) left in
    let clock = c.in_ok-clock.ensures.all w.world.clock _ h.world.clock_least h.world.clock_most head.1 in
    passed (λ found. found ≡ w) _ _ c.from_residual-in_err-passed_over.ensures.1 (c.in_err-passed_over.ensures.all w.passed_over _ h.passed_over clock.1)

pub returns-in_err-read_resources : goal.returns-in_err-read_resources
returns-in_err-read_resources c w h fits left =
    let few = h.world.few in
    let head = c.in_ok-head.ensures (length w.systems) (length w.conditions) (length w.world.slots) _ fits.few_systems fits.few_conditions (omega (arith, few)) left in
    let clock = c.in_ok-clock.ensures.all w.world.clock _ h.world.clock_least h.world.clock_most head.1 in
    let passed_over = c.in_ok-passed_over.ensures.all w.passed_over _ h.passed_over clock.1 in
    let empty = c.empty-world.ensures ∙ ap empty_store (c.at.ensures ∙ clock.0) in
    passed (λ found. found ≡ w) _ _ c.from_residual-in_err-read_resources.ensures.1 (c.in_err-read_resources.ensures.all w.world.resources _ (many_resources w _ h empty) h.world.resource_number (resources_in w _ h fits empty) passed_over.1)

pub returns-in_err-events : goal.returns-in_err-events
returns-in_err-events c w h fits left =
    let few = h.world.few in
    let head = c.in_ok-head.ensures (length w.systems) (length w.conditions) (length w.world.slots) _ fits.few_systems fits.few_conditions (omega (arith, few)) left in
    let clock = c.in_ok-clock.ensures.all w.world.clock _ h.world.clock_least h.world.clock_most head.1 in
    let passed_over = c.in_ok-passed_over.ensures.all w.passed_over _ h.passed_over clock.1 in
    let empty = c.empty-world.ensures ∙ ap empty_store (c.at.ensures ∙ clock.0) in
    let resources = c.in_ok-read_resources.ensures.all w.world.resources _ (many_resources w _ h empty) h.world.resource_number (resources_in w _ h fits empty) passed_over.1 in
    let now = resources.0 ∙ ap (λ v. with_resources w.world.resources v.state) empty in
    passed (λ found. found ≡ w) _ _ c.from_residual-in_err-events.ensures.1 (c.in_err-events.ensures w.events _ h.queue_number h.queues fits.events resources.1)

pub returns-in_err-systems : goal.returns-in_err-systems
returns-in_err-systems c w h fits left =
    let few = h.world.few in
    let head = c.in_ok-head.ensures (length w.systems) (length w.conditions) (length w.world.slots) _ fits.few_systems fits.few_conditions (omega (arith, few)) left in
    let clock = c.in_ok-clock.ensures.all w.world.clock _ h.world.clock_least h.world.clock_most head.1 in
    let passed_over = c.in_ok-passed_over.ensures.all w.passed_over _ h.passed_over clock.1 in
    let empty = c.empty-world.ensures ∙ ap empty_store (c.at.ensures ∙ clock.0) in
    let resources = c.in_ok-read_resources.ensures.all w.world.resources _ (many_resources w _ h empty) h.world.resource_number (resources_in w _ h fits empty) passed_over.1 in
    let now = resources.0 ∙ ap (λ v. with_resources w.world.resources v.state) empty in
    let events = c.in_ok-events.ensures w.events _ h.queue_number h.queues fits.events resources.1 in
    passed (λ found. found ≡ w) _ _ c.from_residual-in_err-systems.ensures.1 (c.in_err-systems.ensures.all w.systems _ (ap (λ x. x.systems) (sym head.0)) (memories_in w.systems clock.0 h.memories.systems_in) fits.systems events.1)

pub returns-in_err-conditions : goal.returns-in_err-conditions
returns-in_err-conditions c w h fits left =
    let few = h.world.few in
    let head = c.in_ok-head.ensures (length w.systems) (length w.conditions) (length w.world.slots) _ fits.few_systems fits.few_conditions (omega (arith, few)) left in
    let clock = c.in_ok-clock.ensures.all w.world.clock _ h.world.clock_least h.world.clock_most head.1 in
    let passed_over = c.in_ok-passed_over.ensures.all w.passed_over _ h.passed_over clock.1 in
    let empty = c.empty-world.ensures ∙ ap empty_store (c.at.ensures ∙ clock.0) in
    let resources = c.in_ok-read_resources.ensures.all w.world.resources _ (many_resources w _ h empty) h.world.resource_number (resources_in w _ h fits empty) passed_over.1 in
    let now = resources.0 ∙ ap (λ v. with_resources w.world.resources v.state) empty in
    let events = c.in_ok-events.ensures w.events _ h.queue_number h.queues fits.events resources.1 in
    let systems = c.in_ok-systems.ensures.all w.systems _ (ap (λ x. x.systems) (sym head.0)) (memories_in w.systems clock.0 h.memories.systems_in) fits.systems events.1 in
    passed (λ found. found ≡ w) _ _ c.from_residual-in_err-conditions.ensures.1 (c.in_err-conditions.ensures.all w.conditions _ (ap (λ x. x.conditions) (sym head.0)) (memories_in w.conditions clock.0 h.memories.conditions_in) fits.conditions systems.1)

pub returns-in_err-read_slots : goal.returns-in_err-read_slots
returns-in_err-read_slots c w h fits left =
    let few = h.world.few in
    let head = c.in_ok-head.ensures (length w.systems) (length w.conditions) (length w.world.slots) _ fits.few_systems fits.few_conditions (omega (arith, few)) left in
    let clock = c.in_ok-clock.ensures.all w.world.clock _ h.world.clock_least h.world.clock_most head.1 in
    let passed_over = c.in_ok-passed_over.ensures.all w.passed_over _ h.passed_over clock.1 in
    let empty = c.empty-world.ensures ∙ ap empty_store (c.at.ensures ∙ clock.0) in
    let resources = c.in_ok-read_resources.ensures.all w.world.resources _ (many_resources w _ h empty) h.world.resource_number (resources_in w _ h fits empty) passed_over.1 in
    let now = resources.0 ∙ ap (λ v. with_resources w.world.resources v.state) empty in
    let events = c.in_ok-events.ensures w.events _ h.queue_number h.queues fits.events resources.1 in
    let systems = c.in_ok-systems.ensures.all w.systems _ (ap (λ x. x.systems) (sym head.0)) (memories_in w.systems clock.0 h.memories.systems_in) fits.systems events.1 in
    let conditions = c.in_ok-conditions.ensures.all w.conditions _ (ap (λ x. x.conditions) (sym head.0)) (memories_in w.conditions clock.0 h.memories.conditions_in) fits.conditions systems.1 in
    passed (λ found. found ≡ w) _ _ c.from_residual-in_err-read_slots.ensures.1 (c.in_err-read_slots.ensures.all w.world.slots [] (ap (λ x. x.slots) (sym head.0)) (room w _ h now) (slots_in w _ h fits now) (lines_in w _ now conditions.1))

pub returns-in_err-end : goal.returns-in_err-end
returns-in_err-end c w h fits left =
    let few = h.world.few in
    let head = c.in_ok-head.ensures (length w.systems) (length w.conditions) (length w.world.slots) _ fits.few_systems fits.few_conditions (omega (arith, few)) left in
    let clock = c.in_ok-clock.ensures.all w.world.clock _ h.world.clock_least h.world.clock_most head.1 in
    let passed_over = c.in_ok-passed_over.ensures.all w.passed_over _ h.passed_over clock.1 in
    let empty = c.empty-world.ensures ∙ ap empty_store (c.at.ensures ∙ clock.0) in
    let resources = c.in_ok-read_resources.ensures.all w.world.resources _ (many_resources w _ h empty) h.world.resource_number (resources_in w _ h fits empty) passed_over.1 in
    let now = resources.0 ∙ ap (λ v. with_resources w.world.resources v.state) empty in
    let events = c.in_ok-events.ensures w.events _ h.queue_number h.queues fits.events resources.1 in
    let systems = c.in_ok-systems.ensures.all w.systems _ (ap (λ x. x.systems) (sym head.0)) (memories_in w.systems clock.0 h.memories.systems_in) fits.systems events.1 in
    let conditions = c.in_ok-conditions.ensures.all w.conditions _ (ap (λ x. x.conditions) (sym head.0)) (memories_in w.conditions clock.0 h.memories.conditions_in) fits.conditions systems.1 in
    let slots = c.in_ok-read_slots.ensures.all w.world.slots [] (ap (λ x. x.slots) (sym head.0)) (room w _ h now) (slots_in w _ h fits now) (lines_in w _ now conditions.1) in
    absurd (false≢true (c.in_err-end.ensures slots.1))

pub returns : goal.returns
returns c w h fits left =
    let few = h.world.few in
    let head = c.in_ok-head.ensures (length w.systems) (length w.conditions) (length w.world.slots) _ fits.few_systems fits.few_conditions (omega (arith, few)) left in
    let clock = c.in_ok-clock.ensures.all w.world.clock _ h.world.clock_least h.world.clock_most head.1 in
    let passed_over = c.in_ok-passed_over.ensures.all w.passed_over _ h.passed_over clock.1 in
    let empty = c.empty-world.ensures ∙ ap empty_store (c.at.ensures ∙ clock.0) in
    let resources = c.in_ok-read_resources.ensures.all w.world.resources _ (many_resources w _ h empty) h.world.resource_number (resources_in w _ h fits empty) passed_over.1 in
    let now = resources.0 ∙ ap (λ v. with_resources w.world.resources v.state) empty in
    let events = c.in_ok-events.ensures w.events _ h.queue_number h.queues fits.events resources.1 in
    let systems = c.in_ok-systems.ensures.all w.systems _ (ap (λ x. x.systems) (sym head.0)) (memories_in w.systems clock.0 h.memories.systems_in) fits.systems events.1 in
    let conditions = c.in_ok-conditions.ensures.all w.conditions _ (ap (λ x. x.conditions) (sym head.0)) (memories_in w.conditions clock.0 h.memories.conditions_in) fits.conditions systems.1 in
    let slots = c.in_ok-read_slots.ensures.all w.world.slots [] (ap (λ x. x.slots) (sym head.0)) (room w _ h now) (slots_in w _ h fits now) (lines_in w _ now conditions.1) in
    let world = slots.0 ∙ ap (with_slots (λ front. front ++ w.world.slots)) now in
    c.counted.ensures ∙ (λ i. counted_state (world i) (events.0 i) (systems.0 i) (conditions.0 i) (passed_over.0 i))
