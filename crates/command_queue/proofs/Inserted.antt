-- Components that are inserted or removed among those that an entity is left with stay those of a world.
use Rattle.std.proofs.Common.{◌≡◌, ℕ, ◌≤◌, true, List, get_or, set, ap, subst, sym, ◌∙◌}
use Rattle.std.specs.List.{AllByRecursion}
use Rattle.std.proofs.lemmas.List.{get_or_default}
use Rattle.kinds.specs.declared.value.Value.{Value}
use Rattle.kinds.specs.Value.{value_number, value_words}
use Rattle.kinds.specs.Components.{widths}
use Rattle.model.specs.declared.entities.Entity.{Entity}
use Rattle.model.specs.Lists.{update_at}
use Rattle.model.specs.state.State.{Component, World}
use Rattle.model.specs.state.Commands.{with_row}
use Rattle.model.specs.state.Rows.{IsRising, insert_component, remove_component}
use Rattle.model.specs.state.Shape.{IsComponent}
use Rattle.model.proofs.shape.Rows.{each-insert, each-remove, rising-insert, rising-remove, component-new, component-changed}
use Rattle.archetype_store.specs.declared.change.EntityChange.{EntityChange}
use Rattle.archetype_store.specs.Changes.{components_left, changed}
use Rattle.kinds.proofs.Wide.{value_width}
use Rattle.command_queue.specs.Pending.{is_left_alive, AreChanges, IsKept}
use Rattle.command_queue.proofs.Puts.{at_place}
use Rattle.command_queue.proofs.Targets.{can_at, changes_again, slots_again, row_again}

module _ (w : World) (cs : List EntityChange) (valid : AreChanges w cs) (e : Entity) (p : ℕ) (kept : IsKept cs e p) (x c : EntityChange) (is : x ≡ get_or cs p x) (its : c.entity ≡ x.entity) where
  rising : IsRising (components_left x.fate)
  rising = subst (λ (y : EntityChange). IsRising (components_left y.fate)) (sym is) (can_at w cs valid e.index p x kept.place_is).rising

  components : AllByRecursion (IsComponent widths w.clock) (components_left x.fate)
  components = subst (λ (y : EntityChange). AllByRecursion (IsComponent widths w.clock) (components_left y.fate)) (sym is) (can_at w cs valid e.index p x kept.place_is).components

  -- the change is of the entity
  pub its_entity : c.entity ≡ e
  its_entity = its ∙ ap (λ (y : EntityChange). y.entity) is ∙ kept.entity x

  pub changes_inserted : (tick : ℕ) (value : Value) → tick ≤ w.clock → components_left c.fate ≡ insert_component tick (value_number value) (value_words value) (components_left x.fate) → AreChanges w (set cs p c)
  changes_inserted tick value past row = changes_again w cs valid e p kept c its_entity
      (subst IsRising (sym row) (rising-insert tick (value_number value) (value_words value) (components_left x.fate) rising))
      (subst (AllByRecursion (IsComponent widths w.clock)) (sym row) (each-insert (IsComponent widths w.clock) tick (value_number value) (value_words value) (components_left x.fate)
      (component-new widths w.clock tick (value_number value) (value_words value) past (value_width value))
      (component-changed widths w.clock tick (value_number value) (value_words value) past (value_width value)) components))

  pub changes_removed : (kind : ℕ) → components_left c.fate ≡ remove_component kind (components_left x.fate) → AreChanges w (set cs p c)
  changes_removed kind row = changes_again w cs valid e p kept c its_entity
      (subst IsRising (sym row) (rising-remove kind (components_left x.fate) rising))
      (subst (AllByRecursion (IsComponent widths w.clock)) (sym row) (each-remove (IsComponent widths w.clock) kind (components_left x.fate) components))

  -- what it makes of the slots, where it changes the row by a function
  pub slots_edited : (f : List Component → List Component) → is_left_alive c.fate ≡ true → components_left c.fate ≡ f (components_left x.fate) →
      changed (set cs p c) w.slots ≡ update_at e.index (with_row f) (changed cs w.slots)
  slots_edited f lasts row = slots_again w cs valid e p kept c its_entity (with_row f)
      (λ slot. row_again f (get_or cs p c).fate c.fate slot (kept.lasts c) lasts (row ∙ ap (λ (y : EntityChange). f (components_left y.fate)) same))
    where
      same : x ≡ get_or cs p c
      same = is ∙ get_or_default cs p x c (at_place e.index cs p kept.place_is).within
