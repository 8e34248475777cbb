-- What is known of the indices of the id book, and what settling makes of them.
use Rattle.std.specs.Prelude.{ℕ, suc, ◌≡◌, ◌≢◌, ◌≤◌, Bool, cond, List, [], ◌∷◌, length, get_or, fold, AllPairs}
use Rattle.std.specs.List.{AllByRecursion}
use Rattle.model.specs.Lists.{update_at}
use Rattle.model.specs.declared.entities.Entity.{Entity}
use Rattle.model.specs.state.State.{Slot, fresh_slot, is_living, most_indices}
use Rattle.model.specs.state.State.Status.{Granted, Vacant}
use Rattle.model.specs.state.Ids.{vacant_indices}
use Rattle.model.specs.state.Commands.{spawned, release}
use Rattle.model.specs.state.Shape.{IsSlot}
use Rattle.entity_table.specs.Rising.{Numbers}

-- the slot of an index: vacant at generation 1 past the end
abbrev pub slot_at : List Slot → ℕ → Slot
slot_at slots index = get_or slots index fresh_slot

-- whether the entity of an index lives
abbrev pub lives_at : List Slot → ℕ → Bool
lives_at slots index = is_living (slot_at slots index).status

-- how many entities live
abbrev pub living_count : List Slot → ℕ
living_count [] = 0
living_count (slot ∷ slots) = cond (is_living slot.status) (suc (living_count slots)) (living_count slots)

-- the id was granted and not yet spawned or settled
pub record IsGranted (slots : List Slot) (e : Entity) : Type 0 where
  pub status : (slot_at slots e.index).status ≡ Granted
  pub generation : (slot_at slots e.index).generation ≡ e.generation

-- no id is named twice
abbrev pub AreApart : List Entity → Type 0
AreApart ids = AllPairs (λ a b. a ≢ b) ids

-- a slot whose grant was taken back
abbrev pub vacated : Slot → Slot
vacated slot = record { generation = slot.generation; status = Vacant; row = [] }

-- the slots once these ids are spawned
abbrev pub spawned_all : List Entity → List Slot → List Slot
spawned_all ids slots = fold (λ book e. update_at e.index (spawned e.generation) book) slots ids

-- the slots once the used ids are spawned and the unused ones released
abbrev pub settled : List Entity → List Entity → List Slot → List Slot
settled used unused slots = release unused (spawned_all used slots)

-- the slots of an id book, whatever the widths of components: each is one of a world, without components, and they are few enough
pub record IsBook (book : List Slot) : Type 0 where
  pub slots : AllByRecursion (IsSlot (λ kind. 0) 0) book
  pub few : length book ≤ most_indices

-- a book with its vacant indices, and room for all its indices among them
pub record IsKept (book : List Slot) (numbers : Numbers) : Type 0 where
  pub whole : IsBook book
  pub vacant : numbers.rising ≡ vacant_indices book
  pub room : length book ≤ numbers.room

-- the same, with how many live
pub record IsCounted (book : List Slot) (numbers : Numbers) (living : ℕ) : Type 0 where
  pub kept : IsKept book numbers
  pub count : living ≡ living_count book
