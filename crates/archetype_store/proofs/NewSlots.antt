-- What an index behind the last one makes of slots and of a world.
use Rattle.archetype_store.proofs.Common.{◌≡◌, ℕ, zero, suc, ◌<◌, ◌≤◌, true, ◌⊎◌, inl, inr, List, [], ◌∷◌, ◌++◌, length, ap, sym, ◌∙◌, arith, false≢true, cases_lt, get_or_append_left, get_or_past, Entity, Component, Slot, World, fresh_slot, most_indices, is_alive, with_row, IsSlot, IsWorld, each-append, with_rows, empty_slot, with_slots}
use Rattle.std.proofs.lemmas.List.{length-append}
use Rattle.entity_table.specs.declared.status.Status.{Status}
use Rattle.archetype_store.proofs.WorldShape.{world-slots}

-- who lives lives on
pub alive-pushed : (slots : List Slot) (s : Slot) (e : Entity) → is_alive slots e ≡ true → is_alive (slots ++ s ∷ []) e ≡ true
alive-pushed slots s e alive = go (cases_lt e.index (length slots))
  where
    go : (e.index < length slots) ⊎ (length slots ≤ e.index) → is_alive (slots ++ s ∷ []) e ≡ true
    go (inl l) = ap (λ (slot : Slot). is_alive (slot ∷ []) (record { index = 0; generation = e.generation })) (get_or_append_left slots (s ∷ []) fresh_slot e.index l) ∙ alive
    go (inr l) =
        absurd (false≢true (ap (λ (slot : Slot). is_alive (slot ∷ []) (record { index = 0; generation = e.generation })) (sym (get_or_past slots e.index fresh_slot l)) ∙ alive))

-- a slot without components, behind an index past which rows are empty
pub with_rows-pushed : (rows : ℕ → List Component) (slots : List Slot) (generation : ℕ) (status : Status) → rows (length slots) ≡ [] →
    with_rows rows (slots ++ empty_slot generation status ∷ []) ≡ with_rows rows slots ++ empty_slot generation status ∷ []
with_rows-pushed rows [] generation status e = ap (λ row. with_row (λ old. row) (empty_slot generation status) ∷ []) e
with_rows-pushed rows (x ∷ xs) generation status e = ap (◌∷◌ (with_row (λ old. rows zero) x)) (with_rows-pushed (λ i. rows (suc i)) xs generation status e)

-- a slot without components is one of every world
slot-anywhere : (W : ℕ → ℕ) (clock generation : ℕ) (status : Status) → IsSlot (λ kind. 0) 0 (empty_slot generation status) → IsSlot W clock (empty_slot generation status)
slot-anywhere W clock generation status h = record {
  least = h.least;
  most = h.most;
  came_back = h.came_back;
  retired = h.retired;
  no_row = h.no_row;
  rising = h.rising;
  components = tt;
}

pub world-pushed : (W : ℕ → ℕ) (w : World) (generation : ℕ) (status : Status) → IsSlot (λ kind. 0) 0 (empty_slot generation status) → length w.slots < most_indices → IsWorld W w →
    IsWorld W (with_slots (λ slots. slots ++ empty_slot generation status ∷ []) w)
world-pushed W w generation status h l p =
    world-slots W w (w.slots ++ empty_slot generation status ∷ [])
    (each-append (IsSlot W w.clock) w.slots (empty_slot generation status ∷ []) p.slots (slot-anywhere W w.clock generation status h, tt))
    (omega (arith, length-append w.slots (empty_slot generation status ∷ []))) p
