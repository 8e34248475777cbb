-- What changes make of the slots of a world, and which entities then live.
use Rattle.std.proofs.Common.{◌≡◌, ℕ, zero, suc, ◌<◌, ◌≤◌, true, false, cond, ◌==◌, ◌&&◌, ◌||◌, ◌⊎◌, inl, inr, List, [], ◌∷◌, length, get_or, set, map, min, Option, Some, None, refl, sym, ap, subst, ◌∙◌, arith, eqb-true}
use Rattle.std.specs.List.{AllByRecursion}
use Rattle.std.proofs.lemmas.Bool.{and_parts, and_from, cond_both, cases_lt, eq-eqb, false≢true}
use Rattle.std.proofs.lemmas.Bool.Decides.{nat_tests}
use Rattle.std.proofs.lemmas.List.{get_or_past, get_or_default, get_or_push}
use Rattle.kinds.specs.Components.{widths}
use Rattle.model.specs.Lists.{map_index, update_at}
use Rattle.model.specs.declared.entities.Entity.{Entity}
use Rattle.model.specs.state.State.{Component, Slot, World, fresh_slot, is_living, is_granted, last_generation, most_passed_over}
use Rattle.model.specs.state.State.Status.{Vacant, Living, Retired}
use Rattle.model.specs.state.Rows.{IsRising, row_at}
use Rattle.model.specs.state.Shape.{IsComponent, IsWorld}
use Rattle.model.specs.state.Commands.{CommandTarget, is_alive, freed, with_row, if_alive}
use Rattle.model.proofs.lists.Lists.{get_or-map_index}
use Rattle.model.proofs.lists.Each.{each-at}
use Rattle.entity_table.specs.Ids.{slot_at, IsGranted}
use Rattle.entity_table.proofs.Edits.{update_at-id}
use Rattle.entity_table.proofs.Releases.{lives-freed}
use Rattle.archetype_store.specs.Row.{component_of}
use Rattle.archetype_store.specs.declared.change.Fate.{Fate}
use Rattle.archetype_store.specs.declared.change.Fate.TheVariants as the
use Rattle.archetype_store.specs.declared.change.EntityChange.{EntityChange}
use Rattle.archetype_store.specs.Changes.{components_left, slot_left, change_at, changed, CanChange}
use Rattle.command_queue.specs.Pending.{is_left_alive, place_of, put_change, AreChanges, IsKept}
use Rattle.command_queue.proofs.Puts.{at_place, put_first, put_again, place_first, place_again, each_put, apart_put, change_put, change_none, change_some}
use Rattle.archetype_store.proofs.RowNumbers.{same_pair}
use Rattle.archetype_store.proofs.OneChange.{map_index-updated, can_change, row_rising, row_components, slot_stays}

-- ---- lists

-- an element of a list changed by index, within the list
map_index-within : {A : Type 0} (f : ℕ → A → A) (xs : List A) (i : ℕ) (d : A) → i < length xs → get_or (map_index f xs) i d ≡ f i (get_or xs i d)
map_index-within f [] i d l = absurd (omega arith)
map_index-within f (x ∷ xs) zero d l = refl
map_index-within f (x ∷ xs) (suc i) d l = map_index-within (λ j. f (suc j)) xs i d (omega arith)

-- ---- one slot

-- nothing is left granted
left-granted : (fate : Fate) (slot : Slot) → is_granted (slot_left fate slot).status ≡ false
left-granted (the.Lives components) slot = refl
left-granted the.Dies slot = cond_both (slot.generation == last_generation)
    (record { generation = slot.generation; status = Retired; row = [] })
    (record { generation = suc slot.generation; status = Vacant; row = [] }) (λ (s : Slot). is_granted s.status ≡ false) (λ e. refl) (λ e. refl)

-- who is left alive lives at the generation of the slot
left-alive : (fate : Fate) (slot : Slot) (generation : ℕ) → (is_living (slot_left fate slot).status && ((slot_left fate slot).generation == generation)) ≡ (is_left_alive fate && (slot.generation == generation))
left-alive (the.Lives components) slot generation = refl
left-alive the.Dies slot generation = ap (λ b. b && ((freed slot).generation == generation)) (lives-freed slot)

-- where an index is past the end it is neither
fresh_not_held : (i : ℕ) (slots : List Slot) → length slots ≤ i → (is_living (slot_at slots i).status || is_granted (slot_at slots i).status) ≡ true → ⊥
fresh_not_held i slots l h =
    let fresh : slot_at slots i ≡ fresh_slot = get_or_past slots i fresh_slot l in
    false≢true (sym (ap (λ (s : Slot). is_living s.status || is_granted s.status) fresh) ∙ h)

-- ---- the slots of a world

module _ (w : World) (cs : List EntityChange) (valid : AreChanges w cs) where
  -- what is known of the index of a change
  pub can_at : (i p : ℕ) (d : EntityChange) → place_of i cs ≡ Some p → CanChange w (get_or cs p d)
  can_at i p d h = each-at (CanChange w) cs p d (at_place i cs p h).within valid.can

  held_at : (i p : ℕ) (d : EntityChange) → place_of i cs ≡ Some p → (is_living (slot_at w.slots i).status || is_granted (slot_at w.slots i).status) ≡ true
  held_at i p d h = subst (λ n. (is_living (slot_at w.slots n).status || is_granted (slot_at w.slots n).status) ≡ true) ((at_place i cs p h).index_is d) (can_at i p d h).held

  generation_at : (i p : ℕ) (d : EntityChange) → place_of i cs ≡ Some p → (slot_at w.slots i).generation ≡ (get_or cs p d).entity.generation
  generation_at i p d h = subst (λ n. (slot_at w.slots n).generation ≡ (get_or cs p d).entity.generation) ((at_place i cs p h).index_is d) (can_at i p d h).generation

  none : EntityChange
  none = record { entity = record { index = 0; generation = 0 }; fate = the.Dies }

  -- the slot of an index
  pub slot_changed : (i : ℕ) → slot_at (changed cs w.slots) i ≡ change_at cs i (slot_at w.slots i)
  slot_changed i = go (place_of i cs) refl
    where
      within : (p : ℕ) → place_of i cs ≡ Some p → (i < length w.slots) ⊎ (length w.slots ≤ i) → slot_at (changed cs w.slots) i ≡ change_at cs i (slot_at w.slots i)
      within p e (inl l) = map_index-within (change_at cs) w.slots i fresh_slot l
      within p e (inr l) = absurd (fresh_not_held i w.slots l (held_at i p none e))

      go : (o : Option ℕ) → place_of i cs ≡ o → slot_at (changed cs w.slots) i ≡ change_at cs i (slot_at w.slots i)
      go None e = get_or-map_index (change_at cs) w.slots i fresh_slot (change_none i fresh_slot cs e)
      go (Some p) e = within p e (cases_lt i (length w.slots))

  -- who has no change lives where it did
  pub alive_unchanged : (e : Entity) → place_of e.index cs ≡ None → is_alive (changed cs w.slots) e ≡ is_alive w.slots e
  alive_unchanged e h = ap (λ (s : Slot). is_living s.status && (s.generation == e.generation)) (slot_changed e.index ∙ change_none e.index (slot_at w.slots e.index) cs h)

  -- who has one lives as it leaves it
  pub alive_changed : (e : Entity) (p : ℕ) (d : EntityChange) → place_of e.index cs ≡ Some p →
      is_alive (changed cs w.slots) e ≡ (is_left_alive (get_or cs p d).fate && ((get_or cs p d).entity.generation == e.generation))
  alive_changed e p d h =
      ap (λ (s : Slot). is_living s.status && (s.generation == e.generation)) (slot_changed e.index ∙ change_some e.index (slot_at w.slots e.index) cs p d h)
      ∙ left-alive (get_or cs p d).fate (slot_at w.slots e.index) e.generation
      ∙ ap (λ n. is_left_alive (get_or cs p d).fate && (n == e.generation)) (generation_at e.index p d h)

  -- who is granted has no change
  pub granted_unchanged : (e : Entity) → IsGranted (changed cs w.slots) e → place_of e.index cs ≡ None
  granted_unchanged e h = go (place_of e.index cs) refl
    where
      go : (o : Option ℕ) → place_of e.index cs ≡ o → o ≡ None
      go None k = refl
      go (Some p) k = absurd (false≢true (sym (left-granted (get_or cs p none).fate (slot_at w.slots e.index))
          ∙ sym (ap (λ (s : Slot). is_granted s.status) (slot_changed e.index ∙ change_some e.index (slot_at w.slots e.index) cs p none k)) ∙ ap is_granted h.status))

  -- a change of an entity that lives or is granted
  pub changes_put : (c : EntityChange) → CanChange w c → AreChanges w (put_change c cs)
  changes_put c can = record { apart = apart_put c cs valid.apart; can = each_put (CanChange w) c cs can valid.can }

-- what a change that is put makes of the slots
pub slots_put : (slots : List Slot) (cs : List EntityChange) (c : EntityChange) (f : Slot → Slot) →
    slot_left c.fate (slot_at slots c.entity.index) ≡ f (change_at cs c.entity.index (slot_at slots c.entity.index)) →
    changed (put_change c cs) slots ≡ update_at c.entity.index f (changed cs slots)
slots_put slots cs c f h = map_index-updated c.entity.index f (change_at cs) (change_at (put_change c cs)) fresh_slot slots
    (λ i e. change_put i (slot_at slots i) c cs ∙ ap (λ b. cond b (slot_left c.fate (slot_at slots i)) (change_at cs i (slot_at slots i))) (same i e)
    ∙ subst (λ n. slot_left c.fate (slot_at slots n) ≡ f (change_at cs n (slot_at slots n))) (sym e) h)
    (λ i e. change_put i (slot_at slots i) c cs ∙ ap (λ b. cond b (slot_left c.fate (slot_at slots i)) (change_at cs i (slot_at slots i))) (differs i e))
  where
    same : (i : ℕ) → i ≡ c.entity.index → (i == c.entity.index) ≡ true
    same i e = grind (arith, nat_tests)

    differs : (i : ℕ) → (i ≡ c.entity.index → ⊥) → (i == c.entity.index) ≡ false
    differs i e = grind (arith, nat_tests)

-- ---- the change of an entity that lives

-- what stands at the place of an index and leaves the entity alive is its change
pub is_kept : (cs : List EntityChange) (e : Entity) (p : ℕ) (x : EntityChange) → place_of e.index cs ≡ Some p → x ≡ get_or cs p x → (is_left_alive x.fate && (x.entity.generation == e.generation)) ≡ true → IsKept cs e p
is_kept cs e p x h is alive =
    let at = at_place e.index cs p h in
    let both = and_parts (is_left_alive x.fate) (x.entity.generation == e.generation) alive in
    let any : (d : EntityChange) → get_or cs p d ≡ x = λ d. get_or_default cs p d x at.within ∙ sym is in
    record {
      place_is = h;
      entity = λ d. same_pair (get_or cs p d).entity e (at.index_is d) (ap (λ (y : EntityChange). y.entity.generation) (any d) ∙ eqb-true x.entity.generation e.generation both.1);
      lasts = λ d. ap (λ (y : EntityChange). is_left_alive y.fate) (any d) ∙ both.0;
    }

-- whoever has such a change lives
pub kept_lives : (w : World) (cs : List EntityChange) → AreChanges w cs → (e : Entity) (p : ℕ) → IsKept cs e p → is_alive (changed cs w.slots) e ≡ true
kept_lives w cs valid e p k =
    let none : EntityChange = record { entity = e; fate = the.Dies } in
    alive_changed w cs valid e p none k.place_is
    ∙ and_from (is_left_alive (get_or cs p none).fate) ((get_or cs p none).entity.generation == e.generation) (k.lasts none) (eq-eqb (get_or cs p none).entity.generation e.generation (ap (λ (x : Entity). x.generation) (k.entity none)))

-- another change of it, which leaves it with components of a world, or dead
module _ (w : World) (cs : List EntityChange) (valid : AreChanges w cs) (e : Entity) (p : ℕ) (kept : IsKept cs e p) (c : EntityChange) (its : c.entity ≡ e) where
  index_same : c.entity.index ≡ e.index
  index_same = ap (λ (x : Entity). x.index) its

  place_same : place_of c.entity.index cs ≡ Some p
  place_same = ap (λ i. place_of i cs) index_same ∙ kept.place_is

  pub changes_again : IsRising (components_left c.fate) → AllByRecursion (IsComponent widths w.clock) (components_left c.fate) → AreChanges w (set cs p c)
  changes_again rising components =
      let old = can_at w cs valid c.entity.index p c place_same in
      let same : (get_or cs p c).entity ≡ c.entity = kept.entity c ∙ sym its in
      subst (AreChanges w) (sym (put_again c cs p place_same)) (changes_put w cs valid c (record {
        held = subst (λ (x : Entity). (is_living (slot_at w.slots x.index).status || is_granted (slot_at w.slots x.index).status) ≡ true) same old.held;
        generation = subst (λ (x : Entity). (slot_at w.slots x.index).generation ≡ x.generation) same old.generation;
        rising = rising;
        components = components;
      }))

  pub slots_again : (f : Slot → Slot) → ((slot : Slot) → slot_left c.fate slot ≡ f (slot_left (get_or cs p c).fate slot)) → changed (set cs p c) w.slots ≡ update_at e.index f (changed cs w.slots)
  slots_again f h =
      ap (λ ds. changed ds w.slots) (put_again c cs p place_same)
      ∙ slots_put w.slots cs c f (h (slot_at w.slots c.entity.index) ∙ ap f (sym (change_some c.entity.index (slot_at w.slots c.entity.index) cs p c place_same)))
      ∙ ap (λ i. update_at i f (changed cs w.slots)) index_same

  pub places_again : (q : ℕ) → place_of q (set cs p c) ≡ place_of q cs
  places_again q = ap (place_of q) (put_again c cs p place_same) ∙ place_again q c cs p place_same

-- ---- what a command on an entity does

pub if_lives : (e : Entity) (f : Slot → Slot) (target : CommandTarget) → is_alive target.slots e ≡ true → if_alive e f target ≡ record { slots = update_at e.index f target.slots; passed_over = target.passed_over }
if_lives e f target h = ap (λ b. cond b (let t : CommandTarget = record { slots = update_at e.index f target.slots; passed_over = target.passed_over } in t)
    (record { slots = target.slots; passed_over = min (suc target.passed_over) most_passed_over })) h

-- ---- the first change of an entity that lives

module _ (w : World) (cs : List EntityChange) (valid : AreChanges w cs) (e : Entity) (alive : is_alive w.slots e ≡ true) (first : place_of e.index cs ≡ None) where
  -- a change that leaves it as it is
  module _ (world : IsWorld widths w) (c : EntityChange) (its : c.entity ≡ e) (lasts : is_left_alive c.fate ≡ true) (row : components_left c.fate ≡ row_at w.slots e.index) where
    pub opened_changes : AreChanges w (put_change c cs)
    opened_changes = changes_put w cs valid c (subst (λ x. CanChange w (let d : EntityChange = record { entity = x; fate = c.fate } in d)) (sym its)
        (can_change w e alive c.fate (subst IsRising (sym row) (row_rising w e alive world)) (subst (AllByRecursion (IsComponent widths w.clock)) (sym row) (row_components w e alive world))))

    pub opened_slots : changed (put_change c cs) w.slots ≡ changed cs w.slots
    opened_slots =
        slots_put w.slots cs c (λ slot. slot) (ap (λ (x : Entity). slot_left c.fate (slot_at w.slots x.index)) its ∙ stays c.fate lasts row
        ∙ sym (change_none e.index (slot_at w.slots e.index) cs first) ∙ sym (ap (λ (x : Entity). change_at cs x.index (slot_at w.slots x.index)) its))
        ∙ update_at-id (λ slot. slot) (changed cs w.slots) c.entity.index fresh_slot (λ l. refl)
      where
        stays : (fate : Fate) → is_left_alive fate ≡ true → components_left fate ≡ row_at w.slots e.index → slot_left fate (slot_at w.slots e.index) ≡ slot_at w.slots e.index
        stays (the.Lives components) l same = slot_stays w e alive (map component_of components.items) same
        stays the.Dies l same = absurd (false≢true l)

    pub opened_kept : IsKept (put_change c cs) e (length cs)
    opened_kept =
        let none : place_of c.entity.index cs ≡ None = ap (λ (x : Entity). place_of x.index cs) its ∙ first in
        is_kept (put_change c cs) e (length cs) c
        (ap (λ (x : Entity). place_of x.index (put_change c cs)) (sym its) ∙ place_first c.entity.index c cs none ∙ ap (λ b. cond b (Some (length cs)) (place_of c.entity.index cs)) (eq-eqb c.entity.index c.entity.index refl))
        (sym (ap (λ ds. get_or ds (length cs) c) (sym (put_first c cs none)) ∙ get_or_push cs c c (length cs) refl))
        (and_from (is_left_alive c.fate) (c.entity.generation == e.generation) lasts (eq-eqb c.entity.generation e.generation (ap (λ (x : Entity). x.generation) its)))

  -- a change by which it dies
  pub killed_changes : AreChanges w (put_change (record { entity = e; fate = the.Dies }) cs)
  killed_changes = changes_put w cs valid (record { entity = e; fate = the.Dies }) (can_change w e alive the.Dies tt tt)

  pub killed_slots : changed (put_change (record { entity = e; fate = the.Dies }) cs) w.slots ≡ update_at e.index freed (changed cs w.slots)
  killed_slots = slots_put w.slots cs (record { entity = e; fate = the.Dies }) freed (ap freed (sym (change_none e.index (slot_at w.slots e.index) cs first)))

-- ---- what is made of a slot that is changed again

-- it is freed as before the change
pub freed_again : (fate : Fate) (slot : Slot) → is_left_alive fate ≡ true → freed slot ≡ freed (slot_left fate slot)
freed_again (the.Lives components) slot h = refl
freed_again the.Dies slot h = absurd (false≢true h)

-- its row is changed
pub row_again : (f : List Component → List Component) (fate new : Fate) (slot : Slot) → is_left_alive fate ≡ true → is_left_alive new ≡ true → components_left new ≡ f (components_left fate) →
    slot_left new slot ≡ with_row f (slot_left fate slot)
row_again f (the.Lives components) (the.Lives others) slot h k e = ap (λ r. let s : Slot = record { generation = slot.generation; status = Living; row = r } in s) e
row_again f (the.Lives components) the.Dies slot h k e = absurd (false≢true k)
row_again f the.Dies new slot h k e = absurd (false≢true h)
