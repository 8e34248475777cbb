-- The state as loaded: clock 1 and all stamps 1, entity i at index i with generation 1, nothing run, sent or passed over.
use Rattle.std.specs.Prelude.{ℕ, ℤ, pos, List, [], map, fold, replicate}
use Rattle.model.specs.state.State.{Component, Slot, Resource, Memory, State, empty_queue, event_count, register_count}
use Rattle.model.specs.state.State.Status.{Living}
use Rattle.model.specs.state.Rows.{insert_component}
use Rattle.model.specs.access.Condition.{access_of_condition}
use Rattle.model.specs.steps.Schedule.{Schedule}

-- a component as a file gives it: its kind and its words
pub record Given : Type 0 where
  pub kind : ℕ
  pub words : List ℤ

-- the row of these components, all stamps 1
abbrev pub row_given : List Given → List Component
row_given given = fold (λ row g. insert_component 1 g.kind g.words row) [] given

-- an entity with these components
abbrev pub slot_given : List Given → Slot
slot_given given = record { generation = 1; status = Living; row = row_given given }

-- a resource with this value
abbrev pub resource_given : ℤ → Resource
resource_given value = record { value = value; changed = 1 }

-- the memory of who never ran, with so many readers
abbrev pub first_memory : List ℕ → Memory
first_memory reads = record { last_run = 0; cursors = map (λ kind. 0) reads; registers = replicate register_count (pos 0) }

-- the state of a schedule with these entities and the values of its resources
abbrev pub loaded : Schedule → List (List Given) → List ℤ → State
loaded s entities values = record {
  world = record { slots = map slot_given entities; resources = map resource_given values; clock = 1 };
  events = replicate event_count empty_queue;
  systems = map (λ system. first_memory system.params.reads) s.systems;
  conditions = map (λ condition. first_memory (access_of_condition condition.condition).reads) s.conditions;
  passed_over = 0;
}
