-- What becomes of entities, and what it makes of the slots.
use Rattle.std.specs.Prelude.{ℕ, ◌≡◌, true, false, cond, ◌==◌, ◌||◌, List, [], ◌∷◌, fold, map}
use Rattle.std.specs.List.{AllByRecursion}
use Rattle.kinds.specs.Components.{widths}
use Rattle.model.specs.Lists.{map_index, update_at}
use Rattle.model.specs.state.State.{Component, Slot, World, is_living, is_granted}
use Rattle.model.specs.state.State.Status.{Living}
use Rattle.model.specs.state.Rows.{IsRising}
use Rattle.model.specs.state.Ids.{grant}
use Rattle.model.specs.sessions.Inputs.{next_id}
use Rattle.model.specs.state.Shape.{IsComponent}
use Rattle.model.specs.state.Commands.{freed}
use Rattle.column_store.specs.declared.stamped.StampedValue.{StampedValue}
use Rattle.entity_table.specs.Ids.{slot_at}
use Rattle.archetype_store.specs.Row.{component_of}
use Rattle.archetype_store.specs.declared.change.Fate.{Fate}
use Rattle.archetype_store.specs.declared.change.Fate.TheVariants as the
use Rattle.archetype_store.specs.declared.change.EntityChange.{EntityChange}

-- the components that are left, and as the definitions have them
abbrev pub row_left : Fate → List StampedValue
row_left (the.Lives components) = components.items
row_left the.Dies = []

abbrev pub components_left : Fate → List Component
components_left fate = map component_of (row_left fate)

-- what the slot of an entity is left as
abbrev pub slot_left : Fate → Slot → Slot
slot_left (the.Lives components) slot = record { generation = slot.generation; status = Living; row = map component_of components.items }
slot_left the.Dies slot = freed slot

-- the slots with a new entity, at the least vacant index, that has this row
abbrev pub with_new : List Component → List Slot → List Slot
with_new row slots = update_at (next_id slots).index (λ slot. record { generation = slot.generation; status = Living; row = row }) (grant 1 slots)

-- what changes make of the slot of an index
abbrev pub change_at : List EntityChange → ℕ → Slot → Slot
change_at [] index slot = slot
change_at (c ∷ cs) index slot = cond (index == c.entity.index) (slot_left c.fate slot) (change_at cs index slot)

-- what they make of all slots
abbrev pub changed : List EntityChange → List Slot → List Slot
changed cs slots = map_index (change_at cs) slots

-- what an id book has of it, in which nobody has a row
abbrev pub living_slot : Slot → Slot
living_slot slot = record { generation = slot.generation; status = Living; row = slot.row }

abbrev pub settled_slot : Fate → Slot → Slot
settled_slot (the.Lives components) slot = living_slot slot
settled_slot the.Dies slot = freed slot

abbrev pub book_changed : List EntityChange → List Slot → List Slot
book_changed cs book = fold (λ slots c. update_at c.entity.index (settled_slot c.fate) slots) book cs

-- the entity lives or its id is granted
pub record IsHeldBy (slots : List Slot) (c : EntityChange) : Type 0 where
  pub held : (is_living (slot_at slots c.entity.index).status || is_granted (slot_at slots c.entity.index).status) ≡ true
  pub generation : (slot_at slots c.entity.index).generation ≡ c.entity.generation

-- no two are of one index
abbrev pub AreOfOtherIndices : List EntityChange → Type 0
AreOfOtherIndices [] = Unit {0}
AreOfOtherIndices (c ∷ cs) = AllByRecursion (λ d. (d.entity.index == c.entity.index) ≡ false) cs × AreOfOtherIndices cs

-- the entity lives or its id is granted, and it is left with components of a world at this clock
pub record CanChange (w : World) (c : EntityChange) : Type 0 where
  pub held : (is_living (slot_at w.slots c.entity.index).status || is_granted (slot_at w.slots c.entity.index).status) ≡ true
  pub generation : (slot_at w.slots c.entity.index).generation ≡ c.entity.generation
  pub rising : IsRising (components_left c.fate)
  pub components : AllByRecursion (IsComponent widths w.clock) (components_left c.fate)
