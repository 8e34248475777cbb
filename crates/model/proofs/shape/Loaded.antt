-- The state as loaded has the shape of a state.
use Rattle.std.proofs.Common.{◌≡◌, ℕ, ◌≤◌, ℤ, pos, refl, ◌∙◌, List, [], ◌∷◌, length, map, fold, arith}
use Rattle.std.proofs.lemmas.List.{length-map, length-replicate}
use Rattle.std.specs.List.{AllByRecursion}
use Rattle.model.specs.state.State.{Component, empty_queue, event_count, register_count, most_indices, resource_count}
use Rattle.model.specs.state.Rows.{IsRising, insert_component}
use Rattle.model.specs.access.Condition.{access_of_condition}
use Rattle.model.specs.steps.Schedule.{Schedule, ScheduledSystem, ScheduledCondition}
use Rattle.model.specs.state.Loaded.{Given, slot_given, resource_given, first_memory, loaded}
use Rattle.model.specs.state.Shape.{IsComponent, IsSlot, IsQueue, IsMemory, AreMemoriesOfSystems, AreMemoriesOfConditions, IsStateOf}
use Rattle.model.proofs.lists.Each.{each-map, each-replicate}
use Rattle.model.proofs.shape.Rows.{each-insert, rising-insert, component-new, component-changed}

-- the row of some components after those of a row is rising
rising-given : (given : List Given) (row : List Component) → IsRising row → IsRising (fold (λ row g. insert_component 1 g.kind g.words row) row given)
rising-given [] row h = h
rising-given (g ∷ gs) row h = rising-given gs (insert_component 1 g.kind g.words row) (rising-insert 1 g.kind g.words row h)

-- its components have their kinds' widths
components-given : (widths : ℕ → ℕ) (given : List Given) (row : List Component) → AllByRecursion (λ g. length g.words ≡ widths g.kind) given
    → AllByRecursion (IsComponent widths 1) row → AllByRecursion (IsComponent widths 1) (fold (λ row g. insert_component 1 g.kind g.words row) row given)
components-given widths [] row w h = h
components-given widths (g ∷ gs) row w h = components-given widths gs (insert_component 1 g.kind g.words row) w.1
    (each-insert (IsComponent widths 1) 1 g.kind g.words row (component-new widths 1 1 g.kind g.words (omega arith) w.0) (component-changed widths 1 1 g.kind g.words (omega arith) w.0) h)

-- an entity
slot-given : (widths : ℕ → ℕ) (given : List Given) → AllByRecursion (λ g. length g.words ≡ widths g.kind) given → IsSlot widths 1 (slot_given given)
slot-given widths given w = record {
  least = omega arith;
  most = omega arith;
  came_back = λ e. cc;
  retired = λ e. cc;
  no_row = λ e. cc;
  rising = rising-given given [] tt;
  components = components-given widths given [] w tt;
}

-- a resource
resources-given : (values : List ℤ) → AllByRecursion (λ r. r.changed ≤ 1) (map resource_given values)
resources-given [] = tt
resources-given (v ∷ vs) = (omega arith, resources-given vs)

-- the memory of who never ran
memory-first : (reads : List ℕ) → IsMemory 1 reads (first_memory reads)
memory-first reads = record { last_run = omega arith; cursors = length-map reads (λ kind. 0); registers = length-replicate register_count (pos 0) }

-- the memories of systems
systems-first : (xs : List ScheduledSystem) → AreMemoriesOfSystems 1 xs (map (λ system. first_memory system.params.reads) xs)
systems-first [] = tt
systems-first (x ∷ xs) = (memory-first x.params.reads, systems-first xs)

-- the memories of conditions
conditions-first : (xs : List ScheduledCondition) → AreMemoriesOfConditions 1 xs (map (λ condition. first_memory (access_of_condition condition.condition).reads) xs)
conditions-first [] = tt
conditions-first (x ∷ xs) = (memory-first (access_of_condition x.condition).reads, conditions-first xs)

-- an empty queue
queue-empty : IsQueue empty_queue
queue-empty = record { from = 0; numbered = refl; older = omega arith; newer = omega arith; most = omega arith }

-- the state as loaded
pub loaded-shape : (widths : ℕ → ℕ) (s : Schedule) (entities : List (List Given)) (values : List ℤ)
    → AllByRecursion (AllByRecursion (λ given. length given.words ≡ widths given.kind)) entities
    → length entities ≤ most_indices → length values ≡ resource_count → IsStateOf widths s (loaded s entities values)
loaded-shape widths s entities values w few count = record {
  world = record {
    slots = each-map (AllByRecursion (λ given. length given.words ≡ widths given.kind)) (IsSlot widths 1) slot_given (slot-given widths) entities w;
    few = omega (arith, length-map entities slot_given);
    resource_number = length-map values resource_given ∙ count;
    resources = resources-given values;
    clock_least = omega arith;
    clock_most = omega arith;
  };
  queue_number = length-replicate event_count empty_queue;
  queues = each-replicate IsQueue event_count empty_queue queue-empty;
  systems = systems-first s.systems;
  conditions = conditions-first s.conditions;
  passed_over = omega arith;
}
