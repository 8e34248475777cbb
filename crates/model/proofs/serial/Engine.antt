-- What an engine's proofs cite: nothing granted or released changes nothing, a sync point, a grant for a level and a start in one form.
use Rattle.std.proofs.Common.{◌≡◌, ℕ, ◌-◌, ◌≤◌, true, false, cond, refl, ap, ◌∙◌, List, [], ◌∷◌, ◌++◌, length, map, replicate, get_or, flat_map, ◌&&◌, arith, append-nil, le-leb}
use Rattle.std.proofs.lemmas.Bool.{and_right}
use Rattle.model.specs.Lists.{has, update_at}
use Rattle.model.specs.state.State.{Entity, Slot, Memory, State, fresh_slot, is_granted, most_indices}
use Rattle.model.specs.shown.Input.{Shown, shown}
use Rattle.model.specs.shown.Outcome.{Command}
use Rattle.model.specs.steps.Schedule.{Schedule, params_of}
use Rattle.model.specs.state.Ids.{vacant_indices, with_room, has_ids, least_vacant, granted_ids, granted_slot, grant, has_ids_for_each, ids_of_each, grant_each}
use Rattle.model.specs.state.Commands.{apply_buffer, freed, names_index, release}
use Rattle.model.specs.runs.RunState.{RunState, next_tick, memory_of_system, memory_after_run, spawns_of, spawners_of_level, with_each, has_ids_for_level, after_grant, commands_of_level, ids_of_level, without_level, after_commands}
use Rattle.model.proofs.lists.Lists.{map_index-id}

-- ---- a grant of none

-- no room is made for none
pub with_room-none : (slots : List Slot) → with_room 0 slots ≡ slots
unfolding with_room
with_room-none slots = ap (λ n. slots ++ replicate n fresh_slot) (let e : 0 - length (vacant_indices slots) ≡ 0 = omega arith in e) ∙ append-nil slots

-- a grant of none changes nothing
pub grant-none : (slots : List Slot) → grant 0 slots ≡ slots
unfolding grant
grant-none slots = map_index-id (λ index slot. cond (has index (least_vacant 0 slots)) (granted_slot slot) slot) fresh_slot (with_room 0 slots) (λ i. refl) ∙ with_room-none slots

-- and gives no id
pub granted_ids-none : (slots : List Slot) → granted_ids 0 slots ≡ []
unfolding granted_ids
granted_ids-none slots = refl

-- there is always room for none, where there aren't too many slots
pub has_ids-none : (slots : List Slot) → length slots ≤ most_indices → has_ids 0 slots ≡ true
unfolding has_ids
has_ids-none slots few = le-leb (length (with_room 0 slots)) most_indices (let e = ap length (with_room-none slots) in omega (arith, e))

-- ---- a sync point without commands and ids

-- lists of nothing joined
pub flat_map-nothing : {A B : Type 0} (xs : List A) → flat_map {X = A} {A = B} (λ x. []) xs ≡ []
flat_map-nothing [] = refl
flat_map-nothing (x ∷ xs) = flat_map-nothing xs

-- a release of no ids changes nothing
pub release-none : (slots : List Slot) → release [] slots ≡ slots
unfolding release
release-none slots = map_index-id (λ index slot. cond (is_granted slot.status && names_index index []) (freed slot) slot) fresh_slot slots
    (λ i. ap (λ b. cond b (freed (get_or slots i fresh_slot)) (get_or slots i fresh_slot)) (and_right (is_granted (get_or slots i fresh_slot).status) false refl))

-- ---- a sync point

-- the state after the commands of a level and the release of its ids
abbrev pub synced_state : List Entity → List Command → State → State
synced_state ids commands state = record {
  world = record {
    slots = release ids (apply_buffer (next_tick state) (record { slots = state.world.slots; passed_over = state.passed_over }) commands).slots;
    resources = state.world.resources;
    clock = next_tick state;
  };
  events = state.events;
  systems = state.systems;
  conditions = state.conditions;
  passed_over = (apply_buffer (next_tick state) (record { slots = state.world.slots; passed_over = state.passed_over }) commands).passed_over;
}

-- the commands of a level in one form, with its ids and commands as arguments
pub after_commands-form : (s : Schedule) (k : ℕ) (run : RunState) → after_commands s k run
    ≡ record { state = synced_state (ids_of_level s k run) (commands_of_level s k run) run.state; buffers = without_level s k run.buffers; grants = without_level s k run.grants }
unfolding after_commands
after_commands-form s k run = refl

-- ---- a grant for a level

-- the state with these slots
abbrev pub with_slots : List Slot → State → State
with_slots slots state = record {
  world = record { slots = slots; resources = state.world.resources; clock = state.world.clock };
  events = state.events;
  systems = state.systems;
  conditions = state.conditions;
  passed_over = state.passed_over;
}

-- the run state after a grant to these systems
abbrev pub granted_run : Schedule → List ℕ → RunState → RunState
granted_run s ns run = record {
  state = with_slots (grant_each (map (spawns_of s) ns) run.state.world.slots) run.state;
  buffers = run.buffers;
  grants = with_each ns (ids_of_each (map (spawns_of s) ns) run.state.world.slots) run.grants;
}

-- a grant for a level in one form, with the systems as an argument
pub after_grant-form : (s : Schedule) (k : ℕ) (run : RunState) → after_grant s k run ≡ granted_run s (spawners_of_level s k) run
unfolding after_grant
after_grant-form s k run = refl

-- a grant for a level in which no system has commands changes nothing
pub after_grant-none : (s : Schedule) (k : ℕ) (run : RunState) → spawners_of_level s k ≡ [] → after_grant s k run ≡ run
unfolding grant_each
after_grant-none s k run none = after_grant-form s k run ∙ ap (λ ns. granted_run s ns run) none

-- there are ids for such a level
pub has_ids_for_level-none : (s : Schedule) (k : ℕ) (run : RunState) → spawners_of_level s k ≡ [] → has_ids_for_level s k run ≡ true
unfolding has_ids_for_level has_ids_for_each
has_ids_for_level-none s k run none = ap (λ ns. has_ids_for_each (map (spawns_of s) ns) run.state.world.slots) none

-- ---- a start

-- the run state after a start, with its memories as an argument
abbrev pub started_run : List Memory → RunState → RunState
started_run memories run = record {
  state = record {
    world = record { slots = run.state.world.slots; resources = run.state.world.resources; clock = next_tick run.state };
    events = run.state.events;
    systems = memories;
    conditions = run.state.conditions;
    passed_over = run.state.passed_over;
  };
  buffers = run.buffers;
  grants = run.grants;
}

-- the memories after a start
abbrev pub memories_started : Schedule → ℕ → State → List Memory
memories_started s n state = update_at n (memory_after_run (next_tick state) (params_of s n).reads state.events) state.systems

-- what a start shows, for these ids
abbrev pub shown_with : Schedule → ℕ → List Entity → State → Shown
shown_with s n ids state = shown (params_of s n) (memory_of_system state n) state ids
