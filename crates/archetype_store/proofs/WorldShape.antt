-- What keeps a world in its shape.
use Rattle.archetype_store.proofs.Common.{◌≡◌, ℕ, ◌≤◌, Bool, true, false, cond, ◌==◌, ℤ, pos, List, [], ◌∷◌, length, get_or, sum, Some, sym, subst, ◌∙◌, arith, AllByRecursion, widths, Entity, update_at, Component, Slot, World, fresh_slot, most_indices, Living, next_id, IsRising, has_ids, grant, has_ids_for_each, grant_each, spawned, release, resource_given, resource_after, IsComponent, IsSlot, IsWorld, each-map_index, length-map_index, spawned_all, settled, Fate, EntityChange, components_left, slot_left, change_at, changed, with_new, CanChange, with_slots, with_slot, with_resource}
use Rattle.model.proofs.lists.Each.{each-update_at}
use Rattle.model.proofs.lists.Lists.{length-update_at}
use Rattle.model.proofs.shape.Slots.{slot-spawned, slot-freed, slots-grant, length-grant, slots-release, length-release}
use Rattle.entity_table.proofs.Levels.{grant_each-is, has_ids_for_each-is}
use Rattle.archetype_store.specs.declared.change.Fate.TheVariants as the

-- ---- outcomes

-- ---- worlds

-- a world with other slots of the shape
pub world-slots : (W : ℕ → ℕ) (w : World) (slots : List Slot) → AllByRecursion (IsSlot W w.clock) slots → length slots ≤ most_indices → IsWorld W w → IsWorld W (with_slots (λ _. slots) w)
world-slots W w slots all few p = record {
  slots = all;
  few = few;
  resource_number = p.resource_number;
  resources = p.resources;
  clock_least = p.clock_least;
  clock_most = p.clock_most;
}

-- a world with one slot changed
world-slot : (W : ℕ → ℕ) (w : World) (i : ℕ) (f : Slot → Slot) → (IsSlot W w.clock (get_or w.slots i fresh_slot) → IsSlot W w.clock (f (get_or w.slots i fresh_slot))) → IsWorld W w → IsWorld W (with_slot i f w)
world-slot W w i f step p = world-slots W w (update_at i f w.slots) (each-update_at (IsSlot W w.clock) i f w.slots fresh_slot step p.slots) (let e = length-update_at i f w.slots in omega (arith, p.few)) p

pub world-spawn : (W : ℕ → ℕ) (w : World) (e : Entity) → IsWorld W w → IsWorld W (with_slot e.index (spawned e.generation) w)
world-spawn W w e p = world-slot W w e.index (spawned e.generation) (slot-spawned W w.clock e.generation (get_or w.slots e.index fresh_slot)) p

pub world-set : (W : ℕ → ℕ) (w : World) (n : ℕ) (v : ℤ) (t : ℕ) → t ≤ w.clock → IsWorld W w → IsWorld W (with_resource n v t w)
world-set W w n v t l p = record {
  slots = p.slots;
  few = p.few;
  resource_number = length-update_at n (resource_after t (Some v)) w.resources ∙ p.resource_number;
  resources = each-update_at (λ r. r.changed ≤ w.clock) n (resource_after t (Some v)) w.resources (resource_given (pos 0)) (λ _. l) p.resources;
  clock_least = p.clock_least;
  clock_most = p.clock_most;
}

pub world-grant : (W : ℕ → ℕ) (w : World) (n : ℕ) → has_ids n w.slots ≡ true → IsWorld W w → IsWorld W (with_slots (grant n) w)
world-grant W w n h p = world-slots W w (grant n w.slots) (slots-grant W w.clock n w.slots p.slots) (length-grant n w.slots h) p

pub world-grant_each : (W : ℕ → ℕ) (w : World) (ns : List ℕ) → has_ids_for_each ns w.slots ≡ true → IsWorld W w → IsWorld W (with_slots (grant_each ns) w)
world-grant_each W w ns h p =
    subst (λ (slots : List Slot). IsWorld W (with_slots (λ _. slots) w)) (sym (grant_each-is ns w.slots))
    (world-grant W w (sum ns) (sym (has_ids_for_each-is ns w.slots p.few) ∙ h) p)

pub world-release : (W : ℕ → ℕ) (w : World) (ids : List Entity) → IsWorld W w → IsWorld W (with_slots (release ids) w)
world-release W w ids p = world-slots W w (release ids w.slots) (slots-release W w.clock ids w.slots p.slots) (let e = length-release ids w.slots in omega (arith, p.few)) p

world-spawn_all : (W : ℕ → ℕ) (w : World) (ids : List Entity) → IsWorld W w → IsWorld W (with_slots (spawned_all ids) w)
world-spawn_all W w [] p = p
world-spawn_all W w (e ∷ es) p = world-spawn_all W (with_slot e.index (spawned e.generation) w) es (world-spawn W w e p)

pub world-settle : (W : ℕ → ℕ) (w : World) (used unused : List Entity) → IsWorld W w → IsWorld W (with_slots (settled used unused) w)
world-settle W w used unused p = world-release W (with_slots (spawned_all used) w) unused (world-spawn_all W w used p)

-- ---- changes of entities

left-shape : (W : ℕ → ℕ) (clock : ℕ) (fate : Fate) (s : Slot) → IsRising (components_left fate) → AllByRecursion (IsComponent W clock) (components_left fate) → IsSlot W clock s → IsSlot W clock (slot_left fate s)
left-shape W clock (the.Lives components) s rising all h = record {
  least = h.least;
  most = h.most;
  came_back = λ is. absurd (cc);
  retired = λ is. absurd (cc);
  no_row = λ is. absurd (cc);
  rising = rising;
  components = all;
}
left-shape W clock the.Dies s rising all h = slot-freed W clock s h

changed-shape : (w : World) (cs : List EntityChange) → AllByRecursion (CanChange w) cs → (i : ℕ) (s : Slot) → IsSlot widths w.clock s → IsSlot widths w.clock (change_at cs i s)
changed-shape w [] can i s h = h
changed-shape w (c ∷ cs) can i s h = go (i == c.entity.index) (changed-shape w cs can.1 i s h)
  where
    go : (b : Bool) → IsSlot widths w.clock (change_at cs i s) → IsSlot widths w.clock (cond b (slot_left c.fate s) (change_at cs i s))
    go true more = left-shape widths w.clock c.fate s can.0.rising can.0.components h
    go false more = more

pub world-changed : (w : World) (cs : List EntityChange) → AllByRecursion (CanChange w) cs → IsWorld widths w → IsWorld widths (with_slots (changed cs) w)
world-changed w cs can p = world-slots widths w (changed cs w.slots) (each-map_index (IsSlot widths w.clock) (IsSlot widths w.clock) (change_at cs) (λ i s h. changed-shape w cs can i s h) w.slots p.slots)
    (let e = length-map_index (change_at cs) w.slots in omega (arith, p.few)) p

-- a new entity with a row of a world
pub world-new : (w : World) (row : List Component) → has_ids 1 w.slots ≡ true → IsRising row → AllByRecursion (IsComponent widths w.clock) row → IsWorld widths w →
    IsWorld widths (with_slots (with_new row) w)
world-new w row h rising all p = world-slot widths (with_slots (grant 1) w) (next_id w.slots).index (λ slot. record { generation = slot.generation; status = Living; row = row })
    (λ s. record {
      least = s.least;
      most = s.most;
      came_back = λ is. absurd (cc);
      retired = λ is. absurd (cc);
      no_row = λ is. absurd (cc);
      rising = rising;
      components = all;
    }) (world-grant widths w 1 h p)
