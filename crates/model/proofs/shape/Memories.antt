-- Memories keep their shape: at a later clock, and after a change of one of them.
use Rattle.std.proofs.Common.{◌≡◌, ℕ, zero, suc, ◌≤◌, ℤ, List, [], ◌∷◌, length, get_or, arith}
use Rattle.std.proofs.lemmas.List.{length-map}
use Rattle.model.specs.Lists.{update_at}
use Rattle.model.specs.state.State.{Memory, EventQueue, register_count}
use Rattle.model.specs.access.Access.{no_params}
use Rattle.model.specs.state.Events.{queue_of}
use Rattle.model.specs.access.Condition.{access_of_condition}
use Rattle.model.specs.access.Condition.Condition.{RunOnce}
use Rattle.model.specs.steps.Schedule.{ScheduledSystem, ScheduledCondition}
use Rattle.model.specs.runs.RunState.{memory_after_run, with_registers}
use Rattle.model.specs.state.Shape.{IsMemory, AreMemoriesOfSystems, AreMemoriesOfConditions}

-- a memory at a later clock
pub memory-later : (clock later : ℕ) (reads : List ℕ) (m : Memory) → clock ≤ later → IsMemory clock reads m → IsMemory later reads m
memory-later clock later reads m le h = let last = h.last_run in record { last_run = omega (arith, last); cursors = h.cursors; registers = h.registers }

-- the memory of who starts or is asked at a tick
pub memory-run : (clock tick : ℕ) (reads : List ℕ) (queues : List EventQueue) (m : Memory) → IsMemory clock reads m → IsMemory tick reads (memory_after_run tick reads queues m)
memory-run clock tick reads queues m h = record { last_run = omega arith; cursors = length-map reads (λ kind. (queue_of queues kind).next); registers = h.registers }

-- a memory with other registers
pub memory-registers : (clock : ℕ) (reads : List ℕ) (registers : List ℤ) (m : Memory) → length registers ≡ register_count → IsMemory clock reads m
    → IsMemory clock reads (with_registers registers m)
memory-registers clock reads registers m count h = record { last_run = h.last_run; cursors = h.cursors; registers = count }

-- the memories of systems at a later clock
pub systems-later : (clock later : ℕ) → clock ≤ later → (xs : List ScheduledSystem) (ms : List Memory) → AreMemoriesOfSystems clock xs ms → AreMemoriesOfSystems later xs ms
systems-later clock later le [] [] h = tt
systems-later clock later le [] (m ∷ ms) h = absurd h
systems-later clock later le (x ∷ xs) [] h = absurd h
systems-later clock later le (x ∷ xs) (m ∷ ms) h = (memory-later clock later x.params.reads m le h.0, systems-later clock later le xs ms h.1)

-- the memories of conditions at a later clock
pub conditions-later : (clock later : ℕ) → clock ≤ later → (xs : List ScheduledCondition) (ms : List Memory) → AreMemoriesOfConditions clock xs ms → AreMemoriesOfConditions later xs ms
conditions-later clock later le [] [] h = tt
conditions-later clock later le [] (m ∷ ms) h = absurd h
conditions-later clock later le (x ∷ xs) [] h = absurd h
conditions-later clock later le (x ∷ xs) (m ∷ ms) h = (memory-later clock later (access_of_condition x.condition).reads m le h.0, conditions-later clock later le xs ms h.1)

-- the memories of systems after a change of one
pub systems-changed : (clock n : ℕ) (f : Memory → Memory) (xs : List ScheduledSystem) (ms : List Memory)
    → ((m : Memory) → IsMemory clock (get_or xs n (record { params = no_params; predecessors = []; level = 0 })).params.reads m
    → IsMemory clock (get_or xs n (record { params = no_params; predecessors = []; level = 0 })).params.reads (f m))
    → AreMemoriesOfSystems clock xs ms → AreMemoriesOfSystems clock xs (update_at n f ms)
systems-changed clock n f [] [] step h = tt
systems-changed clock n f [] (m ∷ ms) step h = absurd h
systems-changed clock n f (x ∷ xs) [] step h = absurd h
systems-changed clock zero f (x ∷ xs) (m ∷ ms) step h = (step m h.0, h.1)
systems-changed clock (suc n) f (x ∷ xs) (m ∷ ms) step h = (h.0, systems-changed clock n f xs ms step h.1)

-- the memories of conditions after a change of one
pub conditions-changed : (clock c : ℕ) (f : Memory → Memory) (xs : List ScheduledCondition) (ms : List Memory)
    → ((m : Memory) → IsMemory clock (access_of_condition (get_or xs c (record { condition = RunOnce; covers = [] })).condition).reads m
    → IsMemory clock (access_of_condition (get_or xs c (record { condition = RunOnce; covers = [] })).condition).reads (f m))
    → AreMemoriesOfConditions clock xs ms → AreMemoriesOfConditions clock xs (update_at c f ms)
conditions-changed clock c f [] [] step h = tt
conditions-changed clock c f [] (m ∷ ms) step h = absurd h
conditions-changed clock c f (x ∷ xs) [] step h = absurd h
conditions-changed clock zero f (x ∷ xs) (m ∷ ms) step h = (step m h.0, h.1)
conditions-changed clock (suc c) f (x ∷ xs) (m ∷ ms) step h = (h.0, conditions-changed clock c f xs ms step h.1)
