-- The numbers of sets of kinds, added one by one.
use Rattle.std.specs.Prelude.{ℕ, ◌^◌, bit_or, Bool, cond, not, ◌&&◌, List, [], ◌∷◌, length}
use Rattle.model.specs.Lists.{is_there}
use Rattle.model.specs.state.State.{Slot, is_living}
use Rattle.model.specs.state.KindSets.{with_number}
use Rattle.archetype_store.specs.View.{kinds_seen, entities_seen}
use Rattle.archetype_store.specs.declared.tables.ArchetypeView.{ArchetypeView}

-- the number of these kinds
abbrev pub set_number : List ℕ → ℕ
set_number [] = 0
set_number (kind ∷ kinds) = bit_or (2 ^ kind) (set_number kinds)

-- rising numbers with those of more sets
abbrev pub numbers_with : List (List ℕ) → List ℕ → List ℕ
numbers_with [] numbers = numbers
numbers_with (kinds ∷ sets) numbers = numbers_with sets (with_number (set_number kinds) numbers)

-- the number of the set without kinds, where it is asked for
abbrev pub first_numbers : Bool → List ℕ
first_numbers without = cond without (0 ∷ []) []

-- whether an entity lives without components
abbrev pub lives_empty : Slot → Bool
lives_empty slot = is_living slot.status && not (is_there slot.row)

-- the number of the kinds of a view of an archetype
abbrev pub number_seen : ArchetypeView → ℕ
number_seen view = set_number (kinds_seen view)

-- how many entities it has
abbrev pub entity_count : ArchetypeView → ℕ
entity_count view = length (entities_seen view)
