-- What commands leave keeps its shape: the slots, and the count of commands passed over.
use Rattle.std.proofs.Common.{◌≡◌, ℕ, suc, ◌≤◌, true, ◌∙◌, List, [], ◌∷◌, length, get_or, min, arith, ◌==◌}
use Rattle.std.proofs.lemmas.Bool.{and_parts, cond_both}
use Rattle.std.specs.List.{AllByRecursion}
use Rattle.model.specs.Lists.{update_at}
use Rattle.model.specs.state.State.{Entity, Slot, fresh_slot, is_living, most_passed_over}
use Rattle.model.specs.state.Rows.{insert_component, remove_component}
use Rattle.model.specs.shown.Outcome.{Command, HasWidth}
use Rattle.model.specs.shown.Outcome.Command.{Spawn, Insert, Remove, Despawn}
use Rattle.model.specs.state.Commands.{CommandTarget, is_alive, freed, spawned, with_row, if_alive, apply_command, apply_buffer}
use Rattle.model.specs.state.Shape.{IsSlot}
use Rattle.model.proofs.lists.Lists.{length-update_at}
use Rattle.model.proofs.lists.Each.{each-update_at}
use Rattle.model.proofs.shape.Slots.{slot-freed, slot-spawned, slot-inserted, slot-removed}

-- what commands change has its shape: slots at a tick, so many of them, and not too many commands passed over
pub record IsTarget (widths : ℕ → ℕ) (tick count : ℕ) (target : CommandTarget) : Type 0 where
  pub slots : AllByRecursion (IsSlot widths tick) target.slots
  pub count_same : length target.slots ≡ count
  pub passed_over : target.passed_over ≤ most_passed_over

-- a change of one slot
target-changed : (widths : ℕ → ℕ) (tick count : ℕ) (target : CommandTarget) (index : ℕ) (f : Slot → Slot)
    → (IsSlot widths tick (get_or target.slots index fresh_slot) → IsSlot widths tick (f (get_or target.slots index fresh_slot)))
    → IsTarget widths tick count target → IsTarget widths tick count (record { slots = update_at index f target.slots; passed_over = target.passed_over })
target-changed widths tick count target index f step h = record {
  slots = each-update_at (IsSlot widths tick) index f target.slots fresh_slot step h.slots;
  count_same = length-update_at index f target.slots ∙ h.count_same;
  passed_over = h.passed_over;
}

-- a change of the slot of an entity that lives
target-if_alive : (widths : ℕ → ℕ) (tick count : ℕ) (target : CommandTarget) (e : Entity) (f : Slot → Slot)
    → ((slot : Slot) → is_living slot.status ≡ true → IsSlot widths tick slot → IsSlot widths tick (f slot))
    → IsTarget widths tick count target → IsTarget widths tick count (if_alive e f target)
target-if_alive widths tick count target e f step h = cond_both (is_alive target.slots e)
    (record { slots = update_at e.index f target.slots; passed_over = target.passed_over })
    (record { slots = target.slots; passed_over = min (suc target.passed_over) most_passed_over })
    (IsTarget widths tick count)
    (λ alive. target-changed widths tick count target e.index f
    (step (get_or target.slots e.index fresh_slot)
    (and_parts (is_living (get_or target.slots e.index fresh_slot).status) ((get_or target.slots e.index fresh_slot).generation == e.generation) alive).0) h)
    (λ dead. record { slots = h.slots; count_same = h.count_same; passed_over = omega arith })

-- a command
pub target-command : (widths : ℕ → ℕ) (tick count : ℕ) (target : CommandTarget) (command : Command) → HasWidth widths command
    → IsTarget widths tick count target → IsTarget widths tick count (apply_command tick target command)
target-command widths tick count target (Spawn e) w h = target-changed widths tick count target e.index (spawned e.generation)
    (slot-spawned widths tick e.generation (get_or target.slots e.index fresh_slot)) h
target-command widths tick count target (Insert e kind words) w h = target-if_alive widths tick count target e (with_row (insert_component tick kind words)) (slot-inserted widths tick tick kind words (omega arith) w) h
target-command widths tick count target (Remove e kind) w h = target-if_alive widths tick count target e (with_row (remove_component kind)) (slot-removed widths tick kind) h
target-command widths tick count target (Despawn e) w h = target-if_alive widths tick count target e freed (λ slot living. slot-freed widths tick slot) h

-- commands, in order
pub target-buffer : (widths : ℕ → ℕ) (tick count : ℕ) (commands : List Command) (target : CommandTarget) → AllByRecursion (HasWidth widths) commands
    → IsTarget widths tick count target → IsTarget widths tick count (apply_buffer tick target commands)
target-buffer widths tick count [] target w h = h
target-buffer widths tick count (command ∷ commands) target w h =
    target-buffer widths tick count commands (apply_command tick target command) w.1 (target-command widths tick count target command w.0 h)
