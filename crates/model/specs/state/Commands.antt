-- What each command does to the slots, and the release of ids.
use Rattle.std.specs.Prelude.{ℕ, suc, Bool, cond, ◌==◌, ◌&&◌, List, [], get_or, fold, min}
use Rattle.std.specs.List.{list_any}
use Rattle.model.specs.Lists.{update_at, map_index}
use Rattle.model.specs.state.State.{Entity, Component, Slot, fresh_slot, is_living, is_granted, last_generation, most_passed_over}
use Rattle.model.specs.state.State.Status.{Vacant, Living, Retired}
use Rattle.model.specs.state.Rows.{insert_component, remove_component}
use Rattle.model.specs.shown.Outcome.{Command}
use Rattle.model.specs.shown.Outcome.Command.{Spawn, Insert, Remove, Despawn}

-- whether an entity lives
abbrev pub is_alive : List Slot → Entity → Bool
is_alive slots e = is_living (get_or slots e.index fresh_slot).status && ((get_or slots e.index fresh_slot).generation == e.generation)

-- an index that is freed: vacant with one more generation, or retired where that can't grow
abbrev pub freed : Slot → Slot
freed slot = cond (slot.generation == last_generation)
    (record { generation = slot.generation; status = Retired; row = [] })
    (record { generation = suc slot.generation; status = Vacant; row = [] })

-- an id that is spawned: where it was granted its entity lives, with no component
abbrev pub spawned : ℕ → Slot → Slot
spawned generation slot = cond (is_granted slot.status && (slot.generation == generation))
    (record { generation = slot.generation; status = Living; row = [] }) slot

-- a slot with its row changed
abbrev pub with_row : (List Component → List Component) → Slot → Slot
with_row f slot = record { generation = slot.generation; status = slot.status; row = f slot.row }

-- what commands change: the slots, and how many commands were passed over
pub record CommandTarget : Type 0 where
  pub slots : List Slot
  pub passed_over : ℕ

-- a change of the slot of an entity that lives, else one more passed over
abbrev pub if_alive : Entity → (Slot → Slot) → CommandTarget → CommandTarget
if_alive e f target = cond (is_alive target.slots e)
    (record { slots = update_at e.index f target.slots; passed_over = target.passed_over })
    (record { slots = target.slots; passed_over = min (suc target.passed_over) most_passed_over })

-- what a command does at a tick
abbrev pub apply_command : ℕ → CommandTarget → Command → CommandTarget
apply_command tick target (Spawn e) = record { slots = update_at e.index (spawned e.generation) target.slots; passed_over = target.passed_over }
apply_command tick target (Insert e kind words) = if_alive e (with_row (insert_component tick kind words)) target
apply_command tick target (Remove e kind) = if_alive e (with_row (remove_component kind)) target
apply_command tick target (Despawn e) = if_alive e freed target

-- the commands of a buffer, in order of issue
abbrev pub apply_buffer : ℕ → CommandTarget → List Command → CommandTarget
apply_buffer tick target commands = fold (apply_command tick) target commands

-- whether an id names the index
abbrev pub names_index : ℕ → List Entity → Bool
names_index index ids = list_any (λ e. e.index == index) ids

-- the slots with each of these ids freed that is still granted
unfoldable pub release : List Entity → List Slot → List Slot
release ids slots = map_index (λ index slot. cond (is_granted slot.status && names_index index ids) (freed slot) slot) slots
