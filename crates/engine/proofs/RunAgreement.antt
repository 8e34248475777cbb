-- What the runs of an engine leave agrees with what any as many runs leave: its state is one of the schedule, and its bodies keep within.
use Rattle.std.proofs.Common.{ℕ, zero, suc, ◌<◌, ◌≡◌, List, [], ◌∷◌, length, get_or, subst, arith}
use Rattle.model.specs.access.Access.{Params}
use Rattle.model.specs.access.Condition.{access_of_condition}
use Rattle.model.specs.state.State.{Memory, State, no_memory}
use Rattle.model.specs.state.Shape.{IsStateOf, AreMemoriesOfSystems, AreMemoriesOfConditions}
use Rattle.model.specs.shown.Outcome.{BodyMeaning}
use Rattle.model.specs.steps.Built.{IsBuilt}
use Rattle.model.specs.steps.Schedule.{Schedule, ScheduledCondition, ScheduledSystem, Recorded}
use Rattle.model.specs.runs.WideRuns.{AreWideRuns}
use Rattle.model.specs.state.Agreement.{AgreesWithAll}
use Rattle.model.proofs.agreement.OneWithAll.{wide_runs_agree}
use Rattle.kinds.specs.Components.{widths}
use Rattle.body.specs.Steps.{HasShape, IsInTime}
use Rattle.engine.specs.EngineValue.{EngineValue}
use Rattle.engine.specs.Meanings.{meanings, AllKeepWithin, HasMemories}
use Rattle.engine.proofs.BodiesWithin.{bodies_keep}

-- ---- memories

-- a memory for each system
of-systems : (clock : ℕ) (xs : List ScheduledSystem) (ms : List Memory) (d : ScheduledSystem) → length ms ≡ length xs → IsInTime clock ms →
    ((n : ℕ) → n < length xs → length (get_or ms n no_memory).cursors ≡ length (get_or xs n d).params.reads) → AreMemoriesOfSystems clock xs ms
of-systems clock [] [] d count kept readers = tt
of-systems clock [] (m ∷ ms) d count kept readers = absurd (omega (arith, count))
of-systems clock (x ∷ xs) [] d count kept readers = absurd (omega (arith, count))
of-systems clock (x ∷ xs) (m ∷ ms) d count kept readers = (
  record { last_run = kept.0.last_run; cursors = readers zero (omega arith); registers = kept.0.registers },
  of-systems clock xs ms d (let e : suc (length ms) ≡ suc (length xs) = count in omega arith) kept.1 (λ n known. readers (suc n) (omega (arith, known))),
)

-- and for each condition
of-conditions : (clock : ℕ) (xs : List ScheduledCondition) (ms : List Memory) (d : ScheduledCondition) → length ms ≡ length xs → IsInTime clock ms →
    ((n : ℕ) → n < length xs → length (get_or ms n no_memory).cursors ≡ length (access_of_condition (get_or xs n d).condition).reads) → AreMemoriesOfConditions clock xs ms
of-conditions clock [] [] d count kept readers = tt
of-conditions clock [] (m ∷ ms) d count kept readers = absurd (omega (arith, count))
of-conditions clock (x ∷ xs) [] d count kept readers = absurd (omega (arith, count))
of-conditions clock (x ∷ xs) (m ∷ ms) d count kept readers = (
  record { last_run = kept.0.last_run; cursors = readers zero (omega arith); registers = kept.0.registers },
  of-conditions clock xs ms d (let e : suc (length ms) ≡ suc (length xs) = count in omega arith) kept.1 (λ n known. readers (suc n) (omega (arith, known))),
)

-- a state with the memories of a schedule is one of the schedule
pub state_of_schedule : (s : Schedule) (w : State) → HasMemories s w → HasShape w → IsStateOf widths s w
state_of_schedule s w has shape = record {
  world = shape.world;
  queue_number = shape.queue_number;
  queues = shape.queues;
  systems = of-systems w.world.clock s.systems w.systems _ has.systems shape.memories.systems_in has.system_readers;
  conditions = of-conditions w.world.clock s.conditions w.conditions _ has.conditions shape.memories.conditions_in has.condition_readers;
  passed_over = shape.passed_over;
}

-- ---- agreement

-- what the runs of an engine leave agrees with what any as many runs leave
pub engine_agrees : {B : Type 0} (meaning : B → Params → BodyMeaning) (width times : ℕ) (v : EngineValue B) (hs : List Recorded) (end : State) →
    IsBuilt v.schedule → HasMemories v.schedule v.state → HasShape v.state → AllKeepWithin v.schedule (meanings meaning v.schedule v.bodies) → length hs ≡ times →
    AreWideRuns width v.schedule (meanings meaning v.schedule v.bodies) v.state hs end → AgreesWithAll widths v.schedule (meanings meaning v.schedule v.bodies) v.state times end
engine_agrees meaning width times v hs end built has shape keep count ran =
    let bodies = meanings meaning v.schedule v.bodies in
    subst (λ n. AgreesWithAll widths v.schedule bodies v.state n end) count
    (wide_runs_agree widths width v.schedule bodies v.state hs end built (bodies_keep v.schedule bodies keep) (state_of_schedule v.schedule v.state has shape) ran)
