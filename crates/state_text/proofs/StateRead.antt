-- What is known of the parts of a state while its lines are read.
use Rattle.std.proofs.Common.{◌≡◌, ℕ, ◌+◌, ◌≤◌, List, [], length, sym, ap, subst, ◌∙◌, arith, w64}
use Rattle.std.specs.List.{AllByRecursion}
use Rattle.std.specs.Prelude.{FitsSigned}
use Rattle.kinds.specs.Components.{widths}
use Rattle.model.specs.state.State.{Memory, State, World, most_indices}
use Rattle.model.specs.state.Shape.{IsSlot}
use Rattle.archetype_store.specs.Store.{StoreValue, empty_world}
use Rattle.body.specs.Steps.{IsMemoryAt, HasShape}
use Rattle.state_text.specs.Laws.{FitsComponent, Fits}
use Rattle.state_text.specs.LineWords.{AreLines, IsResourceAt, IsSlotAt, slots_before}
use Rattle.state_text.proofs.OneSlot.{both}

-- the world without entities
abbrev pub empty_store : ℕ → StoreValue
empty_store clock = record { state = empty_world clock; layout = [] }

module _ (w : State) (v : StoreValue) (h : HasShape w) where
  -- it has as many resources
  pub many_resources : v ≡ empty_store w.world.clock → length w.world.resources ≡ length v.state.resources
  many_resources empty = h.world.resource_number ∙ ap (λ (s : StoreValue). length s.state.resources) (sym empty)

  -- and its clock stands there
  pub resources_in : Fits w → v ≡ empty_store w.world.clock → AllByRecursion (IsResourceAt v.state.clock) w.world.resources
  resources_in fits empty = subst (λ (s : StoreValue). AllByRecursion (IsResourceAt s.state.clock) w.world.resources) (sym empty)
      (both (λ r. FitsSigned w64 r.value) (λ r. r.changed ≤ w.world.clock) w.world.resources fits.resources h.world.resources)

pub memories_in : {clock later : ℕ} (ms : List Memory) → later ≡ clock → AllByRecursion (IsMemoryAt clock) ms → AllByRecursion (IsMemoryAt later) ms
memories_in ms same h = subst (λ n. AllByRecursion (IsMemoryAt n) ms) (sym same) h

-- the world without slots
abbrev without_slots : State → World
without_slots w = record { slots = []; resources = w.world.resources; clock = w.world.clock }

module _ (w : State) (v : World) where
  pub room : HasShape w → v ≡ without_slots w → length v.slots + length w.world.slots ≤ most_indices
  room h now = let few = h.world.few in let none = ap (λ (s : World). length s.slots) now in omega (arith, few, none)

  pub slots_in : HasShape w → Fits w → v ≡ without_slots w → AllByRecursion (IsSlotAt v.clock) w.world.slots
  slots_in h fits now = subst (λ (s : World). AllByRecursion (IsSlotAt s.clock) w.world.slots) (sym now)
      (both (IsSlot widths w.world.clock) (λ slot. AllByRecursion FitsComponent slot.row) w.world.slots h.world.slots fits.components)

  pub lines_in : {text : List ℕ} → v ≡ without_slots w → AreLines (slots_before 0 w.world.slots []) text → AreLines (slots_before (length v.slots) w.world.slots []) text
  lines_in {text} now left = subst (λ (s : World). AreLines (slots_before (length s.slots) w.world.slots []) text) (sym now) left
