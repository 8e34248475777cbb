-- The granting of ids: the least vacant indices at their generations. Past the end of the slots all indices are vacant.
use Rattle.std.specs.Prelude.{ℕ, suc, ◌-◌, Bool, true, cond, ◌&&◌, nat_le, List, [], ◌∷◌, ◌++◌, length, map, take, replicate, get_or}
use Rattle.model.specs.Lists.{has, map_index}
use Rattle.model.specs.state.State.{Entity, Slot, fresh_slot, is_vacant, most_indices}
use Rattle.model.specs.state.State.Status.{Granted}

-- the vacant indices among slots whose first has this index, rising
abbrev pub vacant_from : ℕ → List Slot → List ℕ
vacant_from index [] = []
vacant_from index (slot ∷ slots) = cond (is_vacant slot.status) (index ∷ vacant_from (suc index) slots) (vacant_from (suc index) slots)

-- the vacant indices, rising
abbrev pub vacant_indices : List Slot → List ℕ
vacant_indices slots = vacant_from 0 slots

-- the slots with so many fresh ones at the end that n are vacant
unfoldable pub with_room : ℕ → List Slot → List Slot
with_room n slots = slots ++ replicate (n - length (vacant_indices slots)) fresh_slot

-- whether there are n vacant indices
unfoldable pub has_ids : ℕ → List Slot → Bool
has_ids n slots = nat_le (length (with_room n slots)) most_indices

-- the id of an index at its present generation
abbrev pub id_at : List Slot → ℕ → Entity
id_at slots index = record { index = index; generation = (get_or slots index fresh_slot).generation }

-- the n least vacant indices
abbrev pub least_vacant : ℕ → List Slot → List ℕ
least_vacant n slots = take n (vacant_indices (with_room n slots))

-- the ids that a grant of n gives
unfoldable pub granted_ids : ℕ → List Slot → List Entity
granted_ids n slots = map (id_at (with_room n slots)) (least_vacant n slots)

-- a slot that is granted
abbrev pub granted_slot : Slot → Slot
granted_slot slot = record { generation = slot.generation; status = Granted; row = slot.row }

-- the slots after a grant of n
unfoldable pub grant : ℕ → List Slot → List Slot
grant n slots = map_index (λ index slot. cond (has index (least_vacant n slots)) (granted_slot slot) slot) (with_room n slots)

-- ---- grants of several numbers, one after the other

-- whether there are ids for each
unfoldable pub has_ids_for_each : List ℕ → List Slot → Bool
has_ids_for_each [] slots = true
has_ids_for_each (n ∷ ns) slots = has_ids n slots && has_ids_for_each ns (grant n slots)

-- the ids that each of them gives
unfoldable pub ids_of_each : List ℕ → List Slot → List (List Entity)
ids_of_each [] slots = []
ids_of_each (n ∷ ns) slots = granted_ids n slots ∷ ids_of_each ns (grant n slots)

-- the slots after all of them
unfoldable pub grant_each : List ℕ → List Slot → List Slot
grant_each [] slots = slots
grant_each (n ∷ ns) slots = grant_each ns (grant n slots)
