-- Grants of ids and changes of slots that keep status and generation don't see each other.
use Rattle.std.proofs.Common.{ℕ, zero, suc, ◌-◌, Bool, true, false, cond, ◌&&◌, nat_le, ◌≡◌, List, [], ◌∷◌, ◌++◌, length, map, take, replicate, get_or, refl, sym, ap, ap₂, ◌∙◌}
use Rattle.model.specs.Lists.{has, map_index}
use Rattle.model.specs.state.State.{Status, Slot, fresh_slot, is_vacant, most_indices}
use Rattle.model.specs.state.Ids.{vacant_from, vacant_indices, with_room, has_ids, id_at, least_vacant, granted_ids, granted_slot, grant, has_ids_for_each, ids_of_each, grant_each}
use Rattle.model.proofs.lists.Lists.{map_index-comm, length-map_index, get_or-map_index-view, map_index-append_replicate, map-same}

-- a change of slots that no grant sees: status and generation stay, a fresh slot stays, and a granted slot is the changed slot, granted
pub record IsUnseen (f : ℕ → Slot → Slot) : Type 0 where
  pub status : (i : ℕ) (slot : Slot) → (f i slot).status ≡ slot.status
  pub generation : (i : ℕ) (slot : Slot) → (f i slot).generation ≡ slot.generation
  pub fresh : (i : ℕ) → f i fresh_slot ≡ fresh_slot
  pub granted : (i : ℕ) (slot : Slot) → granted_slot (f i slot) ≡ f i (granted_slot slot)

-- ---- one grant

-- the vacant indices stay where no status is changed
pub vacant_from-map_index : (f : ℕ → Slot → Slot) (index : ℕ) (slots : List Slot) → ((i : ℕ) (slot : Slot) → (f i slot).status ≡ slot.status) →
    vacant_from index (map_index f slots) ≡ vacant_from index slots
vacant_from-map_index f index [] h = refl
vacant_from-map_index f index (slot ∷ slots) h =
    ap₂ (λ (status : Status) (xs : List ℕ). cond (is_vacant status) (index ∷ xs) xs) (h zero slot) (vacant_from-map_index (λ i. f (suc i)) (suc index) slots (λ i. h (suc i)))

-- the slots with room after a change are those with room, changed
with_room-unseen : (n : ℕ) (f : ℕ → Slot → Slot) (slots : List Slot) → IsUnseen f → with_room n (map_index f slots) ≡ map_index f (with_room n slots)
unfolding with_room
with_room-unseen n f slots h =
    ap (λ xs. map_index f slots ++ replicate (n - length xs) fresh_slot) (vacant_from-map_index f 0 slots h.status)
    ∙ sym (map_index-append_replicate f slots (n - length (vacant_indices slots)) fresh_slot h.fresh)

-- whether there are ids stays
pub has_ids-unseen : (n : ℕ) (f : ℕ → Slot → Slot) (slots : List Slot) → IsUnseen f → has_ids n (map_index f slots) ≡ has_ids n slots
unfolding has_ids
has_ids-unseen n f slots h =
    ap (λ (xs : List Slot). nat_le (length xs) most_indices) (with_room-unseen n f slots h)
    ∙ ap (λ m. nat_le m most_indices) (length-map_index f (with_room n slots))

-- the least vacant indices stay
least_vacant-unseen : (n : ℕ) (f : ℕ → Slot → Slot) (slots : List Slot) → IsUnseen f → least_vacant n (map_index f slots) ≡ least_vacant n slots
least_vacant-unseen n f slots h =
    ap (λ xs. take n (vacant_indices xs)) (with_room-unseen n f slots h) ∙ ap (take n) (vacant_from-map_index f 0 (with_room n slots) h.status)

-- the id of an index stays
id_at-unseen : (f : ℕ → Slot → Slot) (slots : List Slot) (index : ℕ) → IsUnseen f → id_at (map_index f slots) index ≡ id_at slots index
id_at-unseen f slots index h = λ i. record {
  index = index;
  generation = get_or-map_index-view (λ (slot : Slot). slot.generation) f slots index fresh_slot h.generation i;
}

-- the ids that a grant gives stay
pub granted_ids-unseen : (n : ℕ) (f : ℕ → Slot → Slot) (slots : List Slot) → IsUnseen f → granted_ids n (map_index f slots) ≡ granted_ids n slots
unfolding granted_ids
granted_ids-unseen n f slots h =
    ap₂ (λ xs indices. map (id_at xs) indices) (with_room-unseen n f slots h) (least_vacant-unseen n f slots h)
    ∙ map-same (id_at (map_index f (with_room n slots))) (id_at (with_room n slots)) (least_vacant n slots)
    (λ index i. id_at-unseen f (with_room n slots) index h)

-- a slot that is granted or not, and changed
granted-or_not : (granted : Bool) (f : ℕ → Slot → Slot) (i : ℕ) (slot : Slot) → IsUnseen f
    → cond granted (granted_slot (f i slot)) (f i slot) ≡ f i (cond granted (granted_slot slot) slot)
granted-or_not true f i slot h = h.granted i slot
granted-or_not false f i slot h = refl

-- a grant after a change is the change after the grant
pub grant-unseen : (n : ℕ) (f : ℕ → Slot → Slot) (slots : List Slot) → IsUnseen f → grant n (map_index f slots) ≡ map_index f (grant n slots)
unfolding grant
grant-unseen n f slots h =
    ap₂ (λ (indices : List ℕ) (xs : List Slot). map_index (λ index slot. cond (has index indices) (granted_slot slot) slot) xs)
    (least_vacant-unseen n f slots h) (with_room-unseen n f slots h)
    ∙ map_index-comm (λ index slot. cond (has index (least_vacant n slots)) (granted_slot slot) slot) f fresh_slot (with_room n slots)
    (λ index. granted-or_not (has index (least_vacant n slots)) f index (get_or (with_room n slots) index fresh_slot) h)

-- ---- grants of several numbers

-- whether there are ids for each stays
pub has_ids_for_each-unseen : (ns : List ℕ) (f : ℕ → Slot → Slot) (slots : List Slot) → IsUnseen f → has_ids_for_each ns (map_index f slots) ≡ has_ids_for_each ns slots
unfolding has_ids_for_each
has_ids_for_each-unseen [] f slots h = refl
has_ids_for_each-unseen (n ∷ ns) f slots h =
    ap₂ ◌&&◌ (has_ids-unseen n f slots h) (ap (has_ids_for_each ns) (grant-unseen n f slots h) ∙ has_ids_for_each-unseen ns f (grant n slots) h)

-- the ids that each gives stay
pub ids_of_each-unseen : (ns : List ℕ) (f : ℕ → Slot → Slot) (slots : List Slot) → IsUnseen f → ids_of_each ns (map_index f slots) ≡ ids_of_each ns slots
unfolding ids_of_each
ids_of_each-unseen [] f slots h = refl
ids_of_each-unseen (n ∷ ns) f slots h =
    ap₂ ◌∷◌ (granted_ids-unseen n f slots h) (ap (ids_of_each ns) (grant-unseen n f slots h) ∙ ids_of_each-unseen ns f (grant n slots) h)

-- all of them after a change are the change after all of them
pub grant_each-unseen : (ns : List ℕ) (f : ℕ → Slot → Slot) (slots : List Slot) → IsUnseen f → grant_each ns (map_index f slots) ≡ map_index f (grant_each ns slots)
unfolding grant_each
grant_each-unseen [] f slots h = refl
grant_each-unseen (n ∷ ns) f slots h = ap (grant_each ns) (grant-unseen n f slots h) ∙ grant_each-unseen ns f (grant n slots) h
