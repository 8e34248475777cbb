-- Who lives goes on living, at the same generation, until its index is freed.
use Rattle.std.proofs.Common.{◌≡◌, ℕ, zero, suc, ◌-◌, Bool, true, false, cond, ◌==◌, ◌&&◌, List, [], ◌∷◌, length, sum, refl, sym, ap, ◌∙◌}
use Rattle.std.proofs.lemmas.Bool.{and_parts, false≢true}
use Rattle.model.specs.declared.entities.Entity.{Entity}
use Rattle.model.specs.Lists.{update_at}
use Rattle.model.specs.state.State.{Slot, Status, fresh_slot, is_living, is_granted, is_vacant}
use Rattle.model.specs.state.State.Status.{Vacant, Granted, Living, Retired}
use Rattle.model.specs.state.Ids.{vacant_indices, with_room, grant, granted_slot, grant_each}
use Rattle.model.specs.state.Commands.{is_alive, spawned, release}
use Rattle.model.proofs.lists.Lists.{get_or-append_replicate}
use Rattle.entity_table.specs.Ids.{slot_at, lives_at, spawned_all, settled}
use Rattle.entity_table.proofs.Grants.{first_granted, grant-is}
use Rattle.entity_table.proofs.Levels.{grant_each-is}
use Rattle.entity_table.proofs.Releases.{living-release}

-- where a living slot is left its entity lives on
pub alive-kept : (xs ys : List Slot) (e : Entity) → (lives_at xs e.index ≡ true → slot_at ys e.index ≡ slot_at xs e.index) → is_alive xs e ≡ true → is_alive ys e ≡ true
alive-kept xs ys e kept h =
    let lives = (and_parts (lives_at xs e.index) ((slot_at xs e.index).generation == e.generation) h).0 in
    ap (λ (s : Slot). is_living s.status && (s.generation == e.generation)) (kept lives) ∙ h

-- ---- a grant

living_vacant : (status : Status) → is_living status ≡ true → is_vacant status ≡ false
living_vacant Vacant h = absurd (false≢true h)
living_vacant Granted h = refl
living_vacant Living h = refl
living_vacant Retired h = refl

living-first_granted : (n : ℕ) (xs : List Slot) (i : ℕ) → lives_at xs i ≡ true → slot_at (first_granted n xs) i ≡ slot_at xs i
living-first_granted n [] i h = refl
living-first_granted zero (x ∷ xs) i h = refl
living-first_granted (suc n) (x ∷ xs) zero h =
    go (is_vacant x.status) (living_vacant x.status h)
  where
    go : (v : Bool) → v ≡ false → slot_at (cond v (granted_slot x ∷ first_granted n xs) (x ∷ first_granted (suc n) xs)) zero ≡ x
    go true e = absurd (false≢true (sym e))
    go false e = refl
living-first_granted (suc n) (x ∷ xs) (suc i) h =
    go (is_vacant x.status) (living-first_granted n xs i h) (living-first_granted (suc n) xs i h)
  where
    go : (v : Bool) → slot_at (first_granted n xs) i ≡ slot_at xs i → slot_at (first_granted (suc n) xs) i ≡ slot_at xs i →
        slot_at (cond v (granted_slot x ∷ first_granted n xs) (x ∷ first_granted (suc n) xs)) (suc i) ≡ slot_at xs i
    go true few all = few
    go false few all = all

pub alive-grant : (n : ℕ) (xs : List Slot) (e : Entity) → is_alive xs e ≡ true → is_alive (grant n xs) e ≡ true
unfolding with_room
alive-grant n xs e h = alive-kept xs (grant n xs) e kept h
  where
    same : slot_at (with_room n xs) e.index ≡ slot_at xs e.index
    same = get_or-append_replicate xs (n - length (vacant_indices xs)) e.index fresh_slot

    kept : lives_at xs e.index ≡ true → slot_at (grant n xs) e.index ≡ slot_at xs e.index
    kept lives = ap (λ ys. slot_at ys e.index) (grant-is n xs)
        ∙ living-first_granted n (with_room n xs) e.index (ap (λ (s : Slot). is_living s.status) same ∙ lives) ∙ same

-- several grants
pub alive-grant_each : (ns : List ℕ) (xs : List Slot) (e : Entity) → is_alive xs e ≡ true → is_alive (grant_each ns xs) e ≡ true
alive-grant_each ns xs e h = rw (grant_each-is ns xs) (alive-grant (sum ns) xs e h)

-- ---- a spawn

living_granted : (status : Status) → is_living status ≡ true → is_granted status ≡ false
living_granted Vacant h = absurd (false≢true h)
living_granted Granted h = absurd (false≢true h)
living_granted Living h = refl
living_granted Retired h = absurd (false≢true h)

living-spawned : (i generation : ℕ) (xs : List Slot) (j : ℕ) → lives_at xs j ≡ true → slot_at (update_at i (spawned generation) xs) j ≡ slot_at xs j
living-spawned i generation [] j h = refl
living-spawned zero generation (x ∷ xs) zero h = go (is_granted x.status) (living_granted x.status h)
  where
    go : (g : Bool) → g ≡ false → cond (g && (x.generation == generation)) (let c : Slot = record { generation = x.generation; status = Living; row = [] } in c) x ≡ x
    go true e = absurd (false≢true (sym e))
    go false e = refl
living-spawned zero generation (x ∷ xs) (suc j) h = refl
living-spawned (suc i) generation (x ∷ xs) zero h = refl
living-spawned (suc i) generation (x ∷ xs) (suc j) h = living-spawned i generation xs j h

pub alive-spawned : (i generation : ℕ) (xs : List Slot) (e : Entity) → is_alive xs e ≡ true → is_alive (update_at i (spawned generation) xs) e ≡ true
alive-spawned i generation xs e h = alive-kept xs (update_at i (spawned generation) xs) e (living-spawned i generation xs e.index) h

alive-spawned_all : (ids : List Entity) (xs : List Slot) (e : Entity) → is_alive xs e ≡ true → is_alive (spawned_all ids xs) e ≡ true
alive-spawned_all [] xs e h = h
alive-spawned_all (x ∷ ids) xs e h = alive-spawned_all ids (update_at x.index (spawned x.generation) xs) e (alive-spawned x.index x.generation xs e h)

-- ---- a release, a settling

pub alive-release : (ids : List Entity) (xs : List Slot) (e : Entity) → is_alive xs e ≡ true → is_alive (release ids xs) e ≡ true
alive-release ids xs e h = alive-kept xs (release ids xs) e (living-release ids xs e.index) h

pub alive-settled : (used unused : List Entity) (xs : List Slot) (e : Entity) → is_alive xs e ≡ true → is_alive (settled used unused xs) e ≡ true
alive-settled used unused xs e h = alive-release unused (spawned_all used xs) e (alive-spawned_all used xs e h)

-- ---- an index that is freed
