-- When two states agree, and lists of runs.
use Rattle.std.specs.Option.{option_and_then}
use Rattle.std.specs.Prelude.{ℕ, true, nat_lt, ◌==◌, ◌≡◌, List, [], ◌∷◌, length, map, get_or, Option, Some}
use Rattle.model.specs.declared.steps.Step.{Step}
use Rattle.model.specs.Lists.{IsIn}
use Rattle.model.specs.state.State.{is_living, Cell, State, Resource, fresh_slot, Slot, Memory, no_resource, Component}
use Rattle.model.specs.state.Rows.{row_at, kinds_of}
use Rattle.model.specs.access.Query.{Term, matches}
use Rattle.model.specs.access.Access.{Params}
use Rattle.model.specs.shown.Input.{passes}
use Rattle.model.specs.shown.Outcome.{BodyMeaning}
use Rattle.model.specs.steps.Schedule.{Schedule, Recorded, recording, params_of, access_of, watches}
use Rattle.model.specs.steps.Lawful.{IsComplete, IsLawful}
use Rattle.model.specs.steps.Ambiguity.{Settled}
use Rattle.model.specs.state.Shape.{IsStateOf}
use Rattle.model.specs.runs.RunState.{memory_of_system, memory_of_condition}
use Rattle.model.specs.runs.Meaning.{HasTrueAnswers, HasTrueSets, Interleaved, interleaved}

-- ---- observers

-- who compares stamps: a system or a condition
pub data Observer : Type 0 where
  OfSystem OfCondition : ℕ → Observer

-- the access of an observer
abbrev pub access_of_observer : Schedule → Observer → Params
access_of_observer s (OfSystem n) = params_of s n
access_of_observer s (OfCondition c) = access_of s c

-- the memory of an observer
abbrev pub memory_of : State → Observer → Memory
memory_of w (OfSystem n) = memory_of_system w n
memory_of w (OfCondition c) = memory_of_condition w c

-- the last run of an observer
abbrev pub last_run_of : State → Observer → ℕ
last_run_of w a = (memory_of w a).last_run

-- the changed stamp of a resource
abbrev pub changed_of : State → ℕ → ℕ
changed_of w number = (get_or w.world.resources number no_resource).changed

-- ---- without stamps

-- a cell without its stamps
abbrev pub cell_without_stamps : Cell → Cell
cell_without_stamps c = record { words = c.words; added = 0; changed = 0 }

-- a component without its stamps
abbrev pub component_without_stamps : Component → Component
component_without_stamps c = record { kind = c.kind; cell = cell_without_stamps c.cell }

-- a slot without its stamps
abbrev pub slot_without_stamps : Slot → Slot
slot_without_stamps slot = record { generation = slot.generation; status = slot.status; row = map component_without_stamps slot.row }

-- a resource without its stamp
abbrev pub resource_without_stamp : Resource → Resource
resource_without_stamp r = record { value = r.value; changed = 0 }

-- a memory without its last run
abbrev pub memory_without_last_run : Memory → Memory
memory_without_last_run m = record { last_run = 0; cursors = m.cursors; registers = m.registers }

-- a state without its stamps and last runs
abbrev pub without_stamps : State → State
without_stamps w = record {
  world = record {
    slots = map slot_without_stamps w.world.slots;
    resources = map resource_without_stamp w.world.resources;
    clock = w.world.clock;
  };
  events = w.events;
  systems = map memory_without_last_run w.systems;
  conditions = map memory_without_last_run w.conditions;
  passed_over = w.passed_over;
}

-- two states agree: they are equal but for stamps and last runs; who never ran in one never ran in the other; and
-- each living row that matches a query of an observer passes the same of its terms, and each resource that a condition
-- watches is newer than the condition's last run, in both or in neither
pub record Agrees (s : Schedule) (v w : State) : Type 0 where
  pub same : without_stamps v ≡ without_stamps w
  pub never : (a : Observer) → (last_run_of v a == 0) ≡ (last_run_of w a == 0)
  pub terms : (a : Observer) (query : List Term) (term : Term) (e : ℕ)
      → IsIn query (access_of_observer s a).queries → IsIn term query
      → is_living (get_or v.world.slots e fresh_slot).status ≡ true
      → matches query (kinds_of (row_at v.world.slots e)) ≡ true
      → passes (last_run_of v a) (row_at v.world.slots e) term ≡ passes (last_run_of w a) (row_at w.world.slots e) term
  pub newer : (c number : ℕ) → watches s c number ≡ true
      → nat_lt (last_run_of v (OfCondition c)) (changed_of v number) ≡ nat_lt (last_run_of w (OfCondition c)) (changed_of w number)

-- ---- lists of runs, the first run first

-- a run from a state: a complete lawful history with true answers and true kind sets
pub record IsRun (s : Schedule) (bodies : List BodyMeaning) (w : State) (h : List Step) : Type 0 where
  pub lawful : IsLawful s h
  pub complete : IsComplete s h
  pub answers : HasTrueAnswers s bodies w h
  pub sets : HasTrueSets s bodies w h

-- each is a run from the state that the runs before it leave
abbrev pub AreRuns : Schedule → List BodyMeaning → State → List Recorded → Type 0
AreRuns s bodies w [] = Unit {0}
AreRuns s bodies w (r ∷ rs) = IsRun (recording s r.sets) bodies w r.steps × ((end : Interleaved) → interleaved s bodies w r.steps ≡ Some end → AreRuns s bodies end.run.state rs)

-- the state that the runs leave
abbrev pub after_runs : Schedule → List BodyMeaning → State → List Recorded → Option State
after_runs s bodies w [] = Some w
after_runs s bodies w (r ∷ rs) = option_and_then (λ (end : Interleaved). after_runs s bodies end.run.state rs) (interleaved s bodies w r.steps)

-- what so many runs leave of a state agrees with what any as many runs leave of any state that agrees with the one, where the schedule is settled
abbrev pub AgreesWithAll : (ℕ → ℕ) → Schedule → List BodyMeaning → State → ℕ → State → Type 0
AgreesWithAll widths s bodies v times v' = (w : State) (gs : List Recorded) (w' : State) → Settled s → IsStateOf widths s w → Agrees s v w → length gs ≡ times →
    AreRuns s bodies w gs → after_runs s bodies w gs ≡ Some w' → Agrees s v' w'
