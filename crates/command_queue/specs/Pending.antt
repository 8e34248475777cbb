-- What commands make of entities before it is done in the world: changes of entities, one for an index.
use Rattle.std.specs.Prelude.{ℕ, suc, ◌≡◌, ◌≢◌, ◌<◌, ◌≤◌, Bool, true, false, cond, ◌==◌, List, [], ◌∷◌, get_or, Option, Some, None, option_map}
use Rattle.std.specs.List.{AllByRecursion}
use Rattle.model.specs.declared.entities.Entity.{Entity}
use Rattle.model.specs.state.State.{Slot, World}
use Rattle.model.specs.state.Commands.{CommandTarget, is_alive}
use Rattle.entity_table.specs.Ids.{IsGranted}
use Rattle.archetype_store.specs.Changes.{changed, AreOfOtherIndices, CanChange}
use Rattle.archetype_store.specs.declared.change.Fate.{Fate}
use Rattle.archetype_store.specs.declared.change.Fate.TheVariants as the
use Rattle.archetype_store.specs.declared.change.EntityChange.{EntityChange}
use Rattle.command_queue.specs.declared.change_places.ChangePlaces.{ChangePlaces}
use Rattle.command_queue.specs.ChangePlaces.{place_told}
use Rattle.command_queue.specs.declared.pending.Pending.{Pending}
use Rattle.command_queue.specs.declared.pending.EntityState.{EntityState}
use Rattle.command_queue.specs.declared.pending.EntityState.TheVariants as entity_state

-- whether an entity is left alive
abbrev pub is_left_alive : Fate → Bool
is_left_alive (the.Lives components) = true
is_left_alive the.Dies = false

-- an entity is left without components
abbrev pub bare_change : Entity → EntityChange
bare_change e = record { entity = e; fate = the.Lives (record { items = []; capacity = 4 }) }

-- the place of the change of an index
abbrev pub place_of : ℕ → List EntityChange → Option ℕ
place_of index [] = None
place_of index (c ∷ cs) = cond (c.entity.index == index) (Some 0) (option_map suc (place_of index cs))

-- the changes with another one: it replaces that of its index, else it comes last
abbrev pub put_change : EntityChange → List EntityChange → List EntityChange
put_change c [] = c ∷ []
put_change c (d ∷ ds) = cond (d.entity.index == c.entity.index) (c ∷ ds) (d ∷ put_change c ds)

-- indices rise from place to place
abbrev pub AreInTurn : List EntityChange → Type 0
AreInTurn cs = (i j p q : ℕ) → place_of i cs ≡ Some p → place_of j cs ≡ Some q → i < j → p < q

-- the place of each change is told by its index, or indices rise
abbrev pub ArePlaced : Option ChangePlaces → List EntityChange → Type 0
ArePlaced None cs = AreInTurn cs
ArePlaced (Some places) cs = (index : ℕ) → place_told places index ≡ place_of index cs

-- the place of a further index is told, where places are told
abbrev pub IsNoted : Option ChangePlaces → ℕ → ℕ → Option ChangePlaces → Type 0
IsNoted None index place None = Unit {0}
IsNoted None index place (Some new) = ⊥
IsNoted (Some old) index place None = ⊥
IsNoted (Some old) index place (Some new) = (q : ℕ) → place_told new q ≡ cond (index == q) (Some place) (place_told old q)

-- no change is of a greater index
abbrev pub IsLast : List EntityChange → ℕ → Type 0
IsLast cs index = (i p : ℕ) → place_of i cs ≡ Some p → i ≤ index

-- the place of an index is told, or is the last one if any
abbrev pub IsKnownPlace : Option ChangePlaces → List EntityChange → ℕ → Type 0
IsKnownPlace None cs index = IsLast cs index
IsKnownPlace (Some places) cs index = Unit {0}

-- changes that a world can make, no two of one index
pub record AreChanges (w : World) (cs : List EntityChange) : Type 0 where
  pub apart : AreOfOtherIndices cs
  pub can : AllByRecursion (CanChange w) cs

-- the same, with the places told
pub record IsPending (w : World) (p : Pending) : Type 0 where
  pub changes : AreChanges w p.changes.items
  pub places : ArePlaced p.places p.changes.items

-- what is left once the changes are made
abbrev pub target_of : World → Pending → CommandTarget
target_of w p = record { slots = changed p.changes.items w.slots; passed_over = p.passed_over }

-- the change at a place leaves the entity alive
pub record IsKept (cs : List EntityChange) (e : Entity) (place : ℕ) : Type 0 where
  pub place_is : place_of e.index cs ≡ Some place
  pub entity : (d : EntityChange) → (get_or cs place d).entity ≡ e
  pub lasts : (d : EntityChange) → is_left_alive (get_or cs place d).fate ≡ true

-- how an entity stands: it lives by the change at a place, it lives and has no change, or it doesn't live
abbrev pub Stands : List Slot → List EntityChange → Entity → EntityState → Type 0
Stands slots cs e (entity_state.Changed place) = IsKept cs e place
Stands slots cs e entity_state.Unchanged = (is_alive slots e ≡ true) × (place_of e.index cs ≡ None)
Stands slots cs e entity_state.Dead = is_alive (changed cs slots) e ≡ false

-- the place of the change of an entity that lives, none where it doesn't live
abbrev pub IsOpen : List Slot → List EntityChange → Entity → Option ℕ → Type 0
IsOpen slots cs e (Some place) = IsKept cs e place
IsOpen slots cs e None = is_alive (changed cs slots) e ≡ false

-- ids that can be spawned one after the other: each is granted, none is named twice
abbrev pub CanSpawn : List Slot → List Entity → Type 0
CanSpawn slots [] = Unit {0}
CanSpawn slots (e ∷ es) = IsGranted slots e × AllByRecursion (λ d. e ≢ d) es × CanSpawn slots es
