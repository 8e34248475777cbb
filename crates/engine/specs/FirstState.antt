-- The state with which a schedule begins.
use Rattle.std.specs.Prelude.{List, map, replicate}
use Rattle.model.specs.access.Condition.{access_of_condition}
use Rattle.model.specs.state.State.{Memory, State, World, empty_queue, event_count}
use Rattle.model.specs.state.Loaded.{first_memory}
use Rattle.model.specs.steps.Schedule.{Schedule}

-- the memories of systems that never ran, and of conditions that were never asked
abbrev pub first_systems : Schedule → List Memory
first_systems s = map (λ system. first_memory system.params.reads) s.systems

abbrev pub first_conditions : Schedule → List Memory
first_conditions s = map (λ condition. first_memory (access_of_condition condition.condition).reads) s.conditions

-- the state of a world in which nothing was run, sent or passed over
abbrev pub first_state : Schedule → World → State
first_state s world = record {
  world = world;
  events = replicate event_count empty_queue;
  systems = first_systems s;
  conditions = first_conditions s;
  passed_over = 0;
}
