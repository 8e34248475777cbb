-- The change of one entity that lives.
use Rattle.archetype_store.proofs.Common.{◌≡◌, ℕ, ◌==◌, ◌≤◌, true, false, cond, zero, suc, List, [], ◌∷◌, get_or, Option, Some, None, is_some, refl, sym, ap, ap₂, subst, ◌∙◌, arith, eqb-true, AllByRecursion, and_parts, or_left, false≢true, nat_tests, Value, value_number, value_words, widths, map_index, update_at, Entity, Cell, Component, Slot, Status, World, fresh_slot, is_living, is_granted, Vacant, Granted, Living, Retired, IsRising, row_at, cell_at, insert_component, remove_component, IsComponent, IsSlot, IsWorld, is_alive, with_row, map_index-same, each-weaker, slot_at, Fate, EntityChange, cell_of, components_left, slot_left, change_at, changed, CanChange}
use Rattle.kinds.proofs.Wide.{value_width}
use Rattle.model.proofs.lists.Lists.{map_index-id}
use Rattle.model.proofs.lists.Each.{each-get_or}
use Rattle.model.proofs.shape.Rows.{each-insert, each-remove, rising-insert, rising-remove, component-new, component-changed}
use Rattle.entity_table.proofs.Edits.{update_at-same, update_at-id}
use Rattle.archetype_store.proofs.RowEdits.{absent-removed}

-- two changes by index that differ by a change at one
pub map_index-updated : {A : Type 0} (k : ℕ) (f : A → A) (g h : ℕ → A → A) (d : A) (xs : List A) →
    ((i : ℕ) → i ≡ k → h i (get_or xs i d) ≡ f (g i (get_or xs i d))) → ((i : ℕ) → (i ≡ k → ⊥) → h i (get_or xs i d) ≡ g i (get_or xs i d)) → map_index h xs ≡ update_at k f (map_index g xs)
map_index-updated k f g h d [] here other = refl
map_index-updated zero f g h d (x ∷ xs) here other =
    ap₂ ◌∷◌ (here zero refl) (map_index-same (λ i. h (suc i)) (λ i. g (suc i)) d xs (λ i. other (suc i) (λ e. absurd (cc))))
map_index-updated (suc k) f g h d (x ∷ xs) here other =
    ap₂ ◌∷◌ (other zero (λ e. absurd (cc))) (map_index-updated k f (λ i. g (suc i)) (λ i. h (suc i)) d xs (λ i e. here (suc i) (ap suc e)) (λ i e. other (suc i) (λ same. e (cc))))

-- a change by index that changes one alone
map_index-at : {A : Type 0} (k : ℕ) (f : A → A) (h : ℕ → A → A) (d : A) (xs : List A) →
    ((i : ℕ) → i ≡ k → h i (get_or xs i d) ≡ f (get_or xs i d)) → ((i : ℕ) → (i ≡ k → ⊥) → h i (get_or xs i d) ≡ get_or xs i d) → map_index h xs ≡ update_at k f xs
map_index-at k f h d [] here other = refl
map_index-at zero f h d (x ∷ xs) here other =
    ap₂ ◌∷◌ (here zero refl) (map_index-id (λ i. h (suc i)) d xs (λ i. other (suc i) (λ e. absurd (cc))))
map_index-at (suc k) f h d (x ∷ xs) here other =
    ap₂ ◌∷◌ (other zero (λ e. absurd (cc))) (map_index-at k f (λ i. h (suc i)) d xs (λ i e. here (suc i) (ap suc e)) (λ i e. other (suc i) (λ same. e (cc))))

-- what the change of one makes of the slots
pub one_changed : (c : EntityChange) (slots : List Slot) → changed (c ∷ []) slots ≡ update_at c.entity.index (slot_left c.fate) slots
one_changed c slots = map_index-at c.entity.index (slot_left c.fate) (change_at (c ∷ [])) fresh_slot slots
    (λ i e. ap (λ b. cond b (slot_left c.fate (slot_at slots i)) (slot_at slots i)) (same i e))
    (λ i e. ap (λ b. cond b (slot_left c.fate (slot_at slots i)) (slot_at slots i)) (differs i e))
  where
    same : (i : ℕ) → i ≡ c.entity.index → (i == c.entity.index) ≡ true
    same i e = grind (arith, nat_tests)

    differs : (i : ℕ) → (i ≡ c.entity.index → ⊥) → (i == c.entity.index) ≡ false
    differs i e = grind (arith, nat_tests)

-- an entity that lives is left as it is, or with other components of a world
module _ (w : World) (e : Entity) (alive : is_alive w.slots e ≡ true) where
  slot_living : is_living (slot_at w.slots e.index).status ≡ true
  slot_living = (and_parts (is_living (slot_at w.slots e.index).status) ((slot_at w.slots e.index).generation == e.generation) alive).0

  slot_generation : (slot_at w.slots e.index).generation ≡ e.generation
  slot_generation = eqb-true (slot_at w.slots e.index).generation e.generation (and_parts (is_living (slot_at w.slots e.index).status) ((slot_at w.slots e.index).generation == e.generation) alive).1

  pub can_change : (fate : Fate) → IsRising (components_left fate) → AllByRecursion (IsComponent widths w.clock) (components_left fate) → CanChange w (record { entity = e; fate = fate })
  can_change fate rising components = record {
    held = or_left (is_living (slot_at w.slots e.index).status) (is_granted (slot_at w.slots e.index).status) slot_living;
    generation = slot_generation;
    rising = rising;
    components = components;
  }

  -- its row is one of a world
  pub row_rising : IsWorld widths w → IsRising (row_at w.slots e.index)
  row_rising h = each-get_or (λ (s : Slot). IsRising s.row) w.slots e.index fresh_slot tt (each-weaker (IsSlot widths w.clock) (λ (s : Slot). IsRising s.row) (λ s k. k.rising) w.slots h.slots)

  pub row_components : IsWorld widths w → AllByRecursion (IsComponent widths w.clock) (row_at w.slots e.index)
  row_components h = each-get_or (λ (s : Slot). AllByRecursion (IsComponent widths w.clock) s.row) w.slots e.index fresh_slot tt
      (each-weaker (IsSlot widths w.clock) (λ (s : Slot). AllByRecursion (IsComponent widths w.clock) s.row) (λ s k. k.components) w.slots h.slots)

  -- with its own row it stays
  pub slot_stays : (components : List Component) → components ≡ row_at w.slots e.index →
      (let s : Slot = record { generation = (slot_at w.slots e.index).generation; status = Living; row = components } in s) ≡ slot_at w.slots e.index
  slot_stays components same = ap (λ r. let s : Slot = record { generation = (slot_at w.slots e.index).generation; status = Living; row = r } in s) same
      ∙ stays (slot_at w.slots e.index).status slot_living refl
    where
      stays : (status : Status) → is_living status ≡ true → (slot_at w.slots e.index).status ≡ status →
          (let s : Slot = record { generation = (slot_at w.slots e.index).generation; status = Living; row = row_at w.slots e.index } in s) ≡ slot_at w.slots e.index
      stays Living l k = ap (λ status. let s : Slot = record { generation = (slot_at w.slots e.index).generation; status = status; row = row_at w.slots e.index } in s) (sym k)
      stays Vacant l k = absurd (false≢true l)
      stays Granted l k = absurd (false≢true l)
      stays Retired l k = absurd (false≢true l)

  -- its row with a component inserted or removed is one of a world
  module _ (h : IsWorld widths w) (fate : Fate) where
    pub can_insert : (tick : ℕ) (value : Value) → tick ≤ w.clock → components_left fate ≡ insert_component tick (value_number value) (value_words value) (row_at w.slots e.index) → CanChange w (record { entity = e; fate = fate })
    can_insert tick value past row = can_change fate
        (subst IsRising (sym row) (rising-insert tick (value_number value) (value_words value) (row_at w.slots e.index) (row_rising h)))
        (subst (AllByRecursion (IsComponent widths w.clock)) (sym row) (each-insert (IsComponent widths w.clock) tick (value_number value) (value_words value) (row_at w.slots e.index)
        (component-new widths w.clock tick (value_number value) (value_words value) past (value_width value))
        (component-changed widths w.clock tick (value_number value) (value_words value) past (value_width value)) (row_components h)))

    pub can_remove : (kind : ℕ) → components_left fate ≡ remove_component kind (row_at w.slots e.index) → CanChange w (record { entity = e; fate = fate })
    can_remove kind row = can_change fate
        (subst IsRising (sym row) (rising-remove kind (row_at w.slots e.index) (row_rising h)))
        (subst (AllByRecursion (IsComponent widths w.clock)) (sym row) (each-remove (IsComponent widths w.clock) kind (row_at w.slots e.index) (row_components h)))

  -- what another row makes of the slots, where it is that of the entity changed by a function
  pub slots_with_row : (f : List Component → List Component) (components : List Component) → components ≡ f (row_at w.slots e.index) →
      update_at e.index (λ (slot : Slot). let s : Slot = record { generation = slot.generation; status = Living; row = components } in s) w.slots ≡ update_at e.index (with_row f) w.slots
  slots_with_row f components row = update_at-same (λ (slot : Slot). let s : Slot = record { generation = slot.generation; status = Living; row = components } in s) (with_row f) w.slots e.index fresh_slot
      (λ l. ap (λ r. let s : Slot = record { generation = (slot_at w.slots e.index).generation; status = Living; row = r } in s) row ∙ ap (with_row f) (slot_stays (row_at w.slots e.index) refl))

  -- a kind that it hasn't is removed in vain
  pub slots_without : (kind : ℕ) → is_some (cell_of w.slots e kind) ≡ false → w.slots ≡ update_at e.index (with_row (remove_component kind)) w.slots
  slots_without kind h = sym (update_at-id (with_row (remove_component kind)) w.slots e.index fresh_slot (λ l. ap (λ row. with_row (λ _. row) (slot_at w.slots e.index)) (absent-removed kind (row_at w.slots e.index) (none (cell_at (row_at w.slots e.index) kind) seen))))
    where
      seen : is_some (cell_at (row_at w.slots e.index) kind) ≡ false
      seen = sym (ap (λ b. is_some (cond b (cell_at (row_at w.slots e.index) kind) None)) alive) ∙ h

      none : (o : Option Cell) → is_some o ≡ false → o ≡ None
      none None k = refl
      none (Some cell) k = absurd (cc)
