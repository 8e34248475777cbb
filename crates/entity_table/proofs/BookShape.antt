-- What keeps an id book and its vacant indices.
use Rattle.std.proofs.Common.{◌≡◌, ℕ, zero, suc, ◌+◌, ◌<◌, ◌≤◌, Bool, true, false, cond, ◌==◌, ◌&&◌, List, [], ◌∷◌, length, get_or, refl, ap, sym, ◌∙◌, arith}
use Rattle.std.proofs.lemmas.Bool.{eq-eqb, false≢true}
use Rattle.model.specs.Lists.{update_at}
use Rattle.model.specs.state.State.{Slot, fresh_slot, is_vacant, is_granted}
use Rattle.model.specs.state.State.Status.{Vacant, Granted, Living, Retired}
use Rattle.model.specs.state.Ids.{vacant_indices, has_ids, grant}
use Rattle.model.specs.state.Commands.{freed, spawned}
use Rattle.model.specs.state.Shape.{IsSlot}
use Rattle.model.proofs.lists.Lists.{length-update_at}
use Rattle.model.proofs.lists.Each.{each-update_at}
use Rattle.model.proofs.shape.Slots.{slot-freed, slot-spawned, slots-grant, length-grant}
use Rattle.entity_table.specs.Rising.{Numbers, insert_rising}
use Rattle.entity_table.specs.Ids.{slot_at, IsBook, IsKept}
use Rattle.entity_table.proofs.Frees.{vacant_from-more, vacant_from-same, length-vacant_lt}

-- ---- the book

book-update_at : (f : Slot → Slot) (i : ℕ) (xs : List Slot) → ((s : Slot) → IsSlot (λ kind. 0) 0 s → IsSlot (λ kind. 0) 0 (f s)) → IsBook xs → IsBook (update_at i f xs)
book-update_at f i xs step h =
    let few = h.few in
    record {
      slots = each-update_at (IsSlot (λ kind. 0) 0) i f xs fresh_slot (step (get_or xs i fresh_slot)) h.slots;
      few = omega (arith, length-update_at i f xs);
    }

pub book-grant : (n : ℕ) (xs : List Slot) → has_ids n xs ≡ true → IsBook xs → IsBook (grant n xs)
book-grant n xs there h = record { slots = slots-grant (λ kind. 0) 0 n xs h.slots; few = length-grant n xs there }

-- ---- an index that is freed

-- there is room for it
pub room_for_one : (i : ℕ) (xs : List Slot) (numbers : Numbers) → i < length xs → is_vacant (slot_at xs i).status ≡ false → IsKept xs numbers → length numbers.rising < numbers.room
room_for_one i xs numbers l held h =
    let room = h.room in
    omega (arith, length-vacant_lt 0 i xs l held, ap length h.vacant)

-- it is vacant now
pub kept-freed : (i : ℕ) (xs : List Slot) (numbers more : Numbers) → i < length xs → is_vacant (slot_at xs i).status ≡ false → is_vacant (freed (slot_at xs i)).status ≡ true →
    more.rising ≡ insert_rising i numbers.rising → numbers.room ≤ more.room → IsKept xs numbers → IsKept (update_at i freed xs) more
kept-freed i xs numbers more l held vacant e r h =
    let room = h.room in
    record {
      whole = book-update_at freed i xs (slot-freed (λ kind. 0) 0) h.whole;
      vacant = e ∙ ap (insert_rising i) h.vacant ∙ ap (λ k. insert_rising k (vacant_indices xs)) (let z : i ≡ 0 + i = omega arith in z) ∙ sym (vacant_from-more freed 0 i xs l held vacant);
      room = omega (arith, length-update_at i freed xs);
    }

-- it is retired
pub kept-retired : (i : ℕ) (xs : List Slot) (numbers : Numbers) → is_vacant (slot_at xs i).status ≡ false → is_vacant (freed (slot_at xs i)).status ≡ false →
    IsKept xs numbers → IsKept (update_at i freed xs) numbers
kept-retired i xs numbers held retired h =
    let room = h.room in
    record {
      whole = book-update_at freed i xs (slot-freed (λ kind. 0) 0) h.whole;
      vacant = h.vacant ∙ sym (vacant_from-same freed 0 i xs (λ l. retired ∙ sym held));
      room = omega (arith, length-update_at i freed xs);
    }

-- ---- an index that is spawned

spawned-vacant : (generation : ℕ) (s : Slot) → is_vacant (spawned generation s).status ≡ is_vacant s.status
spawned-vacant generation s = go (s.generation == generation) (is_granted s.status) refl
  where
    none : (status : _) → is_granted status ≡ true → is_vacant status ≡ false
    none Vacant e = absurd (false≢true e)
    none Granted e = refl
    none Living e = refl
    none Retired e = refl

    go : (same g : Bool) → is_granted s.status ≡ g → is_vacant (cond (g && same) (let c : Slot = record { generation = s.generation; status = Living; row = [] } in c) s).status ≡ is_vacant s.status
    go true true e = sym (none s.status e)
    go false true e = refl
    go same false e = refl

pub kept-spawned : (i generation : ℕ) (xs : List Slot) (numbers : Numbers) → IsKept xs numbers → IsKept (update_at i (spawned generation) xs) numbers
kept-spawned i generation xs numbers h =
    let room = h.room in
    record {
      whole = book-update_at (spawned generation) i xs (slot-spawned (λ kind. 0) 0 generation) h.whole;
      vacant = h.vacant ∙ sym (vacant_from-same (spawned generation) 0 i xs (λ l. spawned-vacant generation (slot_at xs i)));
      room = omega (arith, length-update_at i (spawned generation) xs);
    }

-- what the spawn of a granted id leaves
pub spawned-granted : (generation : ℕ) (s : Slot) → s.status ≡ Granted → s.generation ≡ generation → spawned generation s ≡ record { generation = s.generation; status = Living; row = [] }
spawned-granted generation s e h =
    let c : Slot = record { generation = s.generation; status = Living; row = [] } in
    ap (λ b. cond (b && (s.generation == generation)) c s) (ap is_granted e) ∙ ap (λ b. cond b c s) (eq-eqb s.generation generation h)

-- a granted index is not past the end
pub granted-within : (xs : List Slot) (i : ℕ) → (slot_at xs i).status ≡ Granted → i < length xs
granted-within [] i h = cc
granted-within (x ∷ xs) zero h = omega arith
granted-within (x ∷ xs) (suc i) h = let r = granted-within xs i h in omega arith
