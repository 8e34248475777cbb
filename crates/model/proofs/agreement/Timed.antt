-- In a state of the right shape no stamp and no last run is above the clock.
use Rattle.std.proofs.Common.{ℕ, zero, suc, ◌≤◌, ◌≡◌, List, [], ◌∷◌, length, get_or, refl, ap, arith}
use Rattle.std.specs.List.{AllByRecursion}
use Rattle.model.specs.state.State.{Slot, Resource, Memory, State, no_resource, no_memory}
use Rattle.model.specs.steps.Schedule.{Schedule, ScheduledSystem, ScheduledCondition}
use Rattle.model.specs.state.Shape.{IsComponent, IsSlot, AreMemoriesOfSystems, AreMemoriesOfConditions, IsStateOf}
use Rattle.model.specs.state.Agreement.{Observer, last_run_of}
use Rattle.model.specs.state.Agreement.Observer.{OfSystem, OfCondition}
use Rattle.model.proofs.lists.Each.{each-weaker, each-get_or}
use Rattle.model.proofs.agreement.Stamps.{IsInTime, IsRowInTime, AreInTime, IsTimed}

-- the slots of a state of the right shape have no stamp above the clock
cells-from_shape : (widths : ℕ → ℕ) (clock : ℕ) (slots : List Slot) → AllByRecursion (IsSlot widths clock) slots → AreInTime clock slots
cells-from_shape widths clock slots h =
    each-weaker (IsSlot widths clock) (λ (slot : Slot). IsRowInTime clock slot.row)
    (λ slot k. each-weaker (IsComponent widths clock) (IsInTime clock) (λ c i. record { added = i.added; changed = i.changed }) slot.row k.components) slots h

-- a memory's last run isn't above the clock
system-from_shape : (clock : ℕ) (xs : List ScheduledSystem) (ms : List Memory) (n : ℕ) → AreMemoriesOfSystems clock xs ms → (get_or ms n no_memory).last_run ≤ clock
system-from_shape clock [] [] n h = omega arith
system-from_shape clock [] (m ∷ ms) n h = absurd h
system-from_shape clock (x ∷ xs) [] n h = absurd h
system-from_shape clock (x ∷ xs) (m ∷ ms) zero h = (h.0).last_run
system-from_shape clock (x ∷ xs) (m ∷ ms) (suc n) h = system-from_shape clock xs ms n h.1

condition-from_shape : (clock : ℕ) (xs : List ScheduledCondition) (ms : List Memory) (n : ℕ) → AreMemoriesOfConditions clock xs ms → (get_or ms n no_memory).last_run ≤ clock
condition-from_shape clock [] [] n h = omega arith
condition-from_shape clock [] (m ∷ ms) n h = absurd h
condition-from_shape clock (x ∷ xs) [] n h = absurd h
condition-from_shape clock (x ∷ xs) (m ∷ ms) zero h = (h.0).last_run
condition-from_shape clock (x ∷ xs) (m ∷ ms) (suc n) h = condition-from_shape clock xs ms n h.1

-- there is a memory for each system and condition
systems-length : (clock : ℕ) (xs : List ScheduledSystem) (ms : List Memory) → AreMemoriesOfSystems clock xs ms → length ms ≡ length xs
systems-length clock [] [] h = refl
systems-length clock [] (m ∷ ms) h = absurd h
systems-length clock (x ∷ xs) [] h = absurd h
systems-length clock (x ∷ xs) (m ∷ ms) h = ap suc (systems-length clock xs ms h.1)

conditions-length : (clock : ℕ) (xs : List ScheduledCondition) (ms : List Memory) → AreMemoriesOfConditions clock xs ms → length ms ≡ length xs
conditions-length clock [] [] h = refl
conditions-length clock [] (m ∷ ms) h = absurd h
conditions-length clock (x ∷ xs) [] h = absurd h
conditions-length clock (x ∷ xs) (m ∷ ms) h = ap suc (conditions-length clock xs ms h.1)

-- the time of a state of the right shape
pub timed_from_shape : (widths : ℕ → ℕ) (s : Schedule) (w : State) → IsStateOf widths s w → IsTimed s w
timed_from_shape widths s w h = record {
  cells = cells-from_shape widths w.world.clock w.world.slots h.world.slots;
  resources = λ n. each-get_or (λ (r : Resource). r.changed ≤ w.world.clock) w.world.resources n no_resource (omega arith) h.world.resources;
  runs = runs;
  systems = systems-length w.world.clock s.systems w.systems h.systems;
  conditions = conditions-length w.world.clock s.conditions w.conditions h.conditions;
}
  where
    runs : (a : Observer) → last_run_of w a ≤ w.world.clock
    runs (OfSystem n) = system-from_shape w.world.clock s.systems w.systems n h.systems
    runs (OfCondition c) = condition-from_shape w.world.clock s.conditions w.conditions c h.conditions
