-- A program file's entities and resources, as the state as loaded has them.
use Rattle.std.specs.Prelude.{◌≡◌, ℤ, Vec, List, [], ◌∷◌, map}
use Rattle.std.specs.declared.alloc.Global.{Global}
use Rattle.model.specs.declared.entities.Entity.{Entity}
use Rattle.model.specs.state.Loaded.{Given, row_given, slot_given, resource_given}
use Rattle.model.specs.state.State.{Slot, World}
use Rattle.model.specs.state.State.Status.{Living}
use Rattle.archetype_store.specs.Changes.{components_left, slot_left}
use Rattle.archetype_store.specs.declared.change.EntityChange.{EntityChange}
use Rattle.kinds.specs.declared.value.Value.{Value}
use Rattle.kinds.specs.Value.{value_number, value_words}

-- a component, by the number of its kind and its words
abbrev pub given_of : Value → Given
given_of value = record { kind = value_number value; words = value_words value }

-- the components of an entity
abbrev pub entity_given : Vec Value Global → List Given
entity_given components = map given_of components.items

-- a world with these entities, the first at index 0, and no others
abbrev pub with_entities : List (List Given) → World → World
with_entities entities w = record { slots = map slot_given entities; resources = w.resources; clock = w.clock }

-- a world with these values of its resources, all changed at tick 1
abbrev pub with_resources : List ℤ → World → World
with_resources values w = record { slots = w.slots; resources = map resource_given values; clock = w.clock }

-- the world as loaded: these entities, these values of the resources, all at tick 1
abbrev pub loaded_world : List (List Given) → List ℤ → World
loaded_world entities values = record { slots = map slot_given entities; resources = map resource_given values; clock = 1 }

-- an id lives, with these components
pub record IsGiven (e : Entity) (given : List Given) (c : EntityChange) : Type 0 where
  pub entity : c.entity ≡ e
  pub row : components_left c.fate ≡ row_given given
  pub left : (slot : Slot) → slot_left c.fate slot ≡ record { generation = slot.generation; status = Living; row = row_given given }

-- each of these ids does, with the components beside it
abbrev pub AreGiven : List Entity → List (List Given) → List EntityChange → Type 0
AreGiven [] [] [] = Unit {0}
AreGiven (e ∷ es) (g ∷ gs) (c ∷ cs) = IsGiven e g c × AreGiven es gs cs
AreGiven _ _ _ = ⊥
