-- What a grant of ids leaves as it is: ids that were granted before.
use Rattle.std.proofs.Common.{◌≡◌, ℕ, zero, suc, ◌+◌, ◌-◌, Bool, true, false, cond, List, [], ◌∷◌, length, refl, ap, sym, ◌∙◌, arith}
use Rattle.std.specs.List.{AllByRecursion}
use Rattle.std.proofs.lemmas.Bool.{false≢true}
use Rattle.model.specs.declared.entities.Entity.{Entity}
use Rattle.model.specs.state.State.{Slot, fresh_slot, is_vacant}
use Rattle.model.specs.state.Ids.{vacant_indices, with_room, granted_ids, granted_slot, grant}
use Rattle.model.proofs.lists.Lists.{get_or-append_replicate}
use Rattle.entity_table.specs.Ids.{slot_at, IsGranted}
use Rattle.entity_table.proofs.Grants.{first_granted, first_ids, grant-is, granted_ids-is}

-- ---- one slot

-- the room that is made isn't told from what is past the end
room-at : (k : ℕ) (slots : List Slot) (i : ℕ) → slot_at (with_room k slots) i ≡ slot_at slots i
unfolding with_room
room-at k slots i = get_or-append_replicate slots (k - length (vacant_indices slots)) i fresh_slot

-- ---- ids that are granted

-- a slot that isn't vacant stays as it is
first-taken : (k : ℕ) (slots : List Slot) (i : ℕ) → is_vacant (slot_at slots i).status ≡ false → slot_at (first_granted k slots) i ≡ slot_at slots i
first-taken k [] i h = refl
first-taken zero (s ∷ ss) i h = refl
first-taken (suc k) (s ∷ ss) zero h = go (is_vacant s.status) h
  where
    go : (v : Bool) → v ≡ false → slot_at (cond v (granted_slot s ∷ first_granted k ss) (s ∷ first_granted (suc k) ss)) zero ≡ s
    go true e = absurd (false≢true (sym e))
    go false e = refl
first-taken (suc k) (s ∷ ss) (suc i) h = go (is_vacant s.status) (first-taken k ss i h) (first-taken (suc k) ss i h)
  where
    go : (v : Bool) → slot_at (first_granted k ss) i ≡ slot_at ss i → slot_at (first_granted (suc k) ss) i ≡ slot_at ss i →
        slot_at (cond v (granted_slot s ∷ first_granted k ss) (s ∷ first_granted (suc k) ss)) (suc i) ≡ slot_at ss i
    go true few all = few
    go false few all = all

pub grant-taken : (k : ℕ) (slots : List Slot) (i : ℕ) → is_vacant (slot_at slots i).status ≡ false → slot_at (grant k slots) i ≡ slot_at slots i
grant-taken k slots i h = ap (λ ys. slot_at ys i) (grant-is k slots)
    ∙ first-taken k (with_room k slots) i (ap (λ (s : Slot). is_vacant s.status) (room-at k slots i) ∙ h) ∙ room-at k slots i

-- an id that is granted stays so
pub granted-grant : (k : ℕ) (slots : List Slot) (e : Entity) → IsGranted slots e → IsGranted (grant k slots) e
granted-grant k slots e h =
    let same : slot_at (grant k slots) e.index ≡ slot_at slots e.index = grant-taken k slots e.index (ap is_vacant h.status) in
    record { status = ap (λ (s : Slot). s.status) same ∙ h.status; generation = ap (λ (s : Slot). s.generation) same ∙ h.generation }

-- the ids that a grant gives are of indices that were vacant
first-vacant : (k b : ℕ) (slots all : List Slot) → ((i : ℕ) → slot_at all (b + i) ≡ slot_at slots i) →
    AllByRecursion (λ (e : Entity). is_vacant (slot_at all e.index).status ≡ true) (first_ids b k slots)
first-vacant k b [] all h = tt
first-vacant zero b (s ∷ ss) all h = tt
first-vacant (suc k) b (s ∷ ss) all h = go (is_vacant s.status) refl (first-vacant k (suc b) ss all later) (first-vacant (suc k) (suc b) ss all later)
  where
    later : (i : ℕ) → slot_at all (suc b + i) ≡ slot_at ss i
    later i = ap (slot_at all) (let e : suc b + i ≡ b + suc i = omega arith in e) ∙ h (suc i)

    here : slot_at all b ≡ s
    here = ap (slot_at all) (let e : b ≡ b + 0 = omega arith in e) ∙ h 0

    go : (v : Bool) → is_vacant s.status ≡ v → AllByRecursion (λ (e : Entity). is_vacant (slot_at all e.index).status ≡ true) (first_ids (suc b) k ss) →
        AllByRecursion (λ (e : Entity). is_vacant (slot_at all e.index).status ≡ true) (first_ids (suc b) (suc k) ss) →
        AllByRecursion (λ (e : Entity). is_vacant (slot_at all e.index).status ≡ true)
        (cond v (record { index = b; generation = s.generation } ∷ first_ids (suc b) k ss) (first_ids (suc b) (suc k) ss))
    go true e few more = (ap (λ (x : Slot). is_vacant x.status) here ∙ e, few)
    go false e few more = more

pub ids-vacant : (k : ℕ) (slots : List Slot) → AllByRecursion (λ (e : Entity). is_vacant (slot_at slots e.index).status ≡ true) (granted_ids k slots)
ids-vacant k slots = rw (granted_ids-is k slots) (first-vacant k 0 (with_room k slots) slots
    (λ i. ap (slot_at slots) (let e : 0 + i ≡ i = omega arith in e) ∙ sym (room-at k slots i)))
