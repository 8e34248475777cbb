-- Where things end: event numbers, generations, ticks before ids; ids of the past; what agreement doesn't look past.
use Rattle.std.proofs.Common.{◌≡◌, ℕ, pos, true, false, List, [], ◌∷◌, Some, refl, ap, ◌∙◌, arith}
use Rattle.model.specs.Lists.{first_some}
use Rattle.model.specs.state.State.{State, Entity, Slot, EventQueue}
use Rattle.model.specs.state.State.Status.{Vacant, Living, Retired}
use Rattle.model.specs.shown.Outcome.Command.{Insert, Remove, Despawn}
use Rattle.model.specs.state.Events.{can_send}
use Rattle.model.specs.state.Ids.{granted_ids}
use Rattle.model.specs.state.Commands.{CommandTarget, apply_command, freed, is_alive}
use Rattle.model.specs.steps.Schedule.{Schedule}
use Rattle.model.specs.runs.RunState.{RunState, has_tick, has_ids_to_open, has_ids_to_sync}
use Rattle.model.specs.runs.Causes.{unless, cause_of_opening, cause_of_sync}
use Rattle.model.specs.runs.Causes.Cause.{NoTick, NoIds}
use Rattle.model.specs.state.Agreement.{Agrees}
use Rattle.model.specs.state.Loaded.{loaded}
use Rattle.model.proofs.examples.Bodies.{score, plain, zeros, computed}

-- ---- the last event has the number below the limit

abbrev queue_at : ℕ → EventQueue
queue_at next = record { kept = []; newer = next; next = next }

last_number : can_send (pos 1 ∷ []) (queue_at 4611686018427387903) ≡ true
last_number = refl

no_number : can_send (pos 1 ∷ []) (queue_at 4611686018427387904) ≡ false
no_number = refl

one_number_left : can_send (pos 1 ∷ pos 2 ∷ []) (queue_at 4611686018427387903) ≡ false
one_number_left = refl

-- ---- an index at the last generation is retired, and never vacant again

abbrev living : ℕ → Slot
living generation = record { generation = generation; status = Living; row = [] }

retired : freed (living 4294967295) ≡ record { generation = 4294967295; status = Retired; row = [] }
retired = refl

not_yet_retired : freed (living 4294967294) ≡ record { generation = 4294967295; status = Vacant; row = [] }
not_yet_retired = refl

abbrev entity : ℕ → ℕ → Entity
entity index generation = record { index = index; generation = generation }

passed_by : granted_ids 2 (freed (living 4294967295) ∷ freed (living 1) ∷ []) ≡ entity 1 2 ∷ entity 2 1 ∷ []
unfolding computed
passed_by = refl

-- ---- an id of the past names nobody, also where its index lives again

abbrev again : List Slot
again = living 2 ∷ []

abbrev target : CommandTarget
target = record { slots = again; passed_over = 0 }

old_id : (is_alive again (entity 0 1) ≡ false) × (is_alive again (entity 0 2) ≡ true)
old_id = (refl, refl)

insert_on_old_id : apply_command 5 target (Insert (entity 0 1) score (pos 7 ∷ [])) ≡ record { slots = again; passed_over = 1 }
insert_on_old_id = refl

remove_on_old_id : apply_command 5 target (Remove (entity 0 1) score) ≡ record { slots = again; passed_over = 1 }
remove_on_old_id = refl

despawn_on_old_id : apply_command 5 target (Despawn (entity 0 1)) ≡ record { slots = again; passed_over = 1 }
despawn_on_old_id = refl

-- the count stays at its greatest value
greatest_count : apply_command 5 (record { slots = again; passed_over = 4611686018427387904 }) (Despawn (entity 0 1)) ≡ record { slots = again; passed_over = 4611686018427387904 }
greatest_count = refl

-- ---- a missing tick comes before missing ids

tick_first : (s : Schedule) (k : ℕ) (run : RunState) → has_tick run.state ≡ false → has_ids_to_sync s k run ≡ false → cause_of_sync s k run ≡ Some NoTick
tick_first s k run e f = ap (λ b. first_some (unless b NoTick) (unless (has_ids_to_sync s k run) NoIds)) e

ids_then : (s : Schedule) (k : ℕ) (run : RunState) → has_tick run.state ≡ true → has_ids_to_sync s k run ≡ false → cause_of_sync s k run ≡ Some NoIds
ids_then s k run e f = ap (λ b. first_some (unless b NoTick) (unless (has_ids_to_sync s k run) NoIds)) e ∙ ap (λ b. unless b NoIds) f

-- so at an opening
tick_first_to_open : (s : Schedule) (state : State) → has_tick state ≡ false → has_ids_to_open s state ≡ false → cause_of_opening s state ≡ Some NoTick
tick_first_to_open s state e f = ap (λ b. first_some (unless b NoTick) (unless (has_ids_to_open s state) NoIds)) e

ids_then_to_open : (s : Schedule) (state : State) → has_tick state ≡ true → has_ids_to_open s state ≡ false → cause_of_opening s state ≡ Some NoIds
ids_then_to_open s state e f = ap (λ b. first_some (unless b NoTick) (unless (has_ids_to_open s state) NoIds)) e ∙ ap (λ b. unless b NoIds) f

-- the last tick can be taken, and is the last
last_tick_taken : (has_tick (record (loaded (plain [] []) [] zeros) { world = record { slots = []; resources = []; clock = 4611686018427387903 } }) ≡ true)
    × (has_tick (record (loaded (plain [] []) [] zeros) { world = record { slots = []; resources = []; clock = 4611686018427387904 } }) ≡ false)
last_tick_taken = (refl, refl)

-- ---- states that differ in the count of commands passed over don't agree

abbrev start : State
start = loaded (plain [] []) [] zeros

counts_agree : Agrees (plain [] []) start (record start { passed_over = 1 }) → ⊥
counts_agree agrees = let same : 0 ≡ 1 = ap (λ (w : State). w.passed_over) agrees.same in omega (arith, same)
