-- A new entity that a host spawns: its row, and what the commands of it leave.
use Rattle.std.proofs.Common.{◌≡◌, ℕ, zero, suc, ◌+◌, ◌-◌, ◌<◌, ◌≤◌, true, cond, ◌==◌, ◌&&◌, List, [], ◌∷◌, ◌++◌, length, get_or, map, fold, min, take, refl, sym, ap, ◌∙◌, arith}
use Rattle.std.specs.List.{AllByRecursion}
use Rattle.std.proofs.lemmas.List.{take_more, map-append}
use Rattle.std.proofs.lemmas.List.Sums.{fold-append}
use Rattle.kinds.specs.declared.value.Value.{Value}
use Rattle.kinds.specs.Value.{value_number, value_words}
use Rattle.kinds.specs.Components.{widths}
use Rattle.kinds.proofs.Wide.{value_width}
use Rattle.model.specs.Lists.{update_at}
use Rattle.model.specs.declared.entities.Entity.{Entity}
use Rattle.model.specs.state.State.{Component, Slot, State, World, fresh_slot, is_living, most_passed_over}
use Rattle.model.specs.state.State.Status.{Living}
use Rattle.model.specs.state.Ids.{grant}
use Rattle.model.specs.state.Rows.{IsRising, insert_component}
use Rattle.model.specs.state.Shape.{IsComponent}
use Rattle.model.specs.state.Loaded.{Given}
use Rattle.model.specs.state.Commands.{CommandTarget, is_alive, spawned, with_row, apply_command, apply_buffer}
use Rattle.model.specs.shown.Outcome.{Command}
use Rattle.model.specs.runs.RunState.{next_tick}
use Rattle.model.specs.sessions.Inputs.{after_input, commands_for, next_id, row_at_tick}
use Rattle.model.specs.sessions.Inputs.Input.{Spawn}
use Rattle.model.proofs.lists.Lists.{==-same}
use Rattle.model.proofs.shape.Rows.{each-insert, rising-insert, component-new, component-changed}
use Rattle.model.proofs.sessions.Spawns.{grant-here, next-generation}
use Rattle.entity_table.proofs.Edits.{get_or-update_at, update_at-same}
use Rattle.entity_table.proofs.BookShape.{granted-within, spawned-granted}
use Rattle.archetype_store.specs.Changes.{with_new}
use Rattle.archetype_store.specs.Store.{at_clock, with_slots}
use Rattle.body.specs.Inputs.{given_by}
use Rattle.body.specs.Steps.{counted_state, ticked}

-- ---- its row

-- one more component
pub row-next : (t k : ℕ) (values : List Value) (value : Value) (row more : List Component) → k < length values → value ≡ get_or values k value
    → row ≡ row_at_tick t (map given_by (take k values)) → more ≡ insert_component t (value_number value) (value_words value) row
    → more ≡ row_at_tick t (map given_by (take (k + 1) values))
row-next t k values value row more l e so_far put =
    put ∙ ap (insert_component t (value_number value) (value_words value)) so_far
    ∙ sym (ap (λ vs. row_at_tick t (map given_by vs)) (take_more values k value l ∙ ap (λ v. take k values ++ v ∷ []) (sym e))
    ∙ ap (row_at_tick t) (map-append given_by (take k values) (value ∷ []))
    ∙ fold-append (λ row g. insert_component t g.kind g.words row) [] (map given_by (take k values)) (given_by value ∷ []))

-- its components are of a world whose clock is not below the tick
rising-from : (t : ℕ) (given : List Given) (row : List Component) → IsRising row → IsRising (fold (λ row g. insert_component t g.kind g.words row) row given)
rising-from t [] row h = h
rising-from t (g ∷ gs) row h = rising-from t gs (insert_component t g.kind g.words row) (rising-insert t g.kind g.words row h)

pub row-rising : (t : ℕ) (given : List Given) → IsRising (row_at_tick t given)
row-rising t given = rising-from t given [] tt

components-from : (clock t : ℕ) (values : List Value) (row : List Component) → t ≤ clock → AllByRecursion (IsComponent widths clock) row
    → AllByRecursion (IsComponent widths clock) (fold (λ row g. insert_component t g.kind g.words row) row (map given_by values))
components-from clock t [] row past h = h
components-from clock t (v ∷ vs) row past h = components-from clock t vs (insert_component t (value_number v) (value_words v) row) past
    (each-insert (IsComponent widths clock) t (value_number v) (value_words v) row
    (component-new widths clock t (value_number v) (value_words v) past (value_width v))
    (component-changed widths clock t (value_number v) (value_words v) past (value_width v)) h)

pub row-components : (clock t : ℕ) (values : List Value) → t ≤ clock → AllByRecursion (IsComponent widths clock) (row_at_tick t (map given_by values))
row-components clock t values past = components-from clock t values [] past tt

-- ---- its commands

module _ (slots : List Slot) where
  -- the index is granted
  granted : (get_or (grant 1 slots) (next_id slots).index fresh_slot).generation ≡ (next_id slots).generation
  granted = ap (λ (s : Slot). s.generation) (grant-here slots) ∙ sym (next-generation slots)

  within : (next_id slots).index < length (grant 1 slots)
  within = granted-within (grant 1 slots) (next_id slots).index (ap (λ (s : Slot). s.status) (grant-here slots))

  -- it lives
  alive : (row : List Component) → is_alive (with_new row slots) (next_id slots) ≡ true
  alive row =
      ap (λ (s : Slot). is_living s.status && (s.generation == (next_id slots).generation))
      (get_or-update_at (λ slot. record { generation = slot.generation; status = Living; row = row }) (grant 1 slots) (next_id slots).index fresh_slot within)
      ∙ ap (λ g. g == (next_id slots).generation) granted
      ∙ ==-same (next_id slots).generation

  -- once it is spawned it has no component
  spawned_new : update_at (next_id slots).index (spawned (next_id slots).generation) (grant 1 slots) ≡ with_new [] slots
  spawned_new = update_at-same (spawned (next_id slots).generation) (λ slot. record { generation = slot.generation; status = Living; row = [] }) (grant 1 slots) (next_id slots).index fresh_slot
      (λ l. spawned-granted (next_id slots).generation (get_or (grant 1 slots) (next_id slots).index fresh_slot) (ap (λ (s : Slot). s.status) (grant-here slots)) granted)

  -- with another row
  row_changed : (f : List Component → List Component) (row : List Component) → update_at (next_id slots).index (with_row f) (with_new row slots) ≡ with_new (f row) slots
  row_changed f row = twice (next_id slots).index (grant 1 slots)
    where
      twice : (i : ℕ) (xs : List Slot) → update_at i (with_row f) (update_at i (λ slot. record { generation = slot.generation; status = Living; row = row }) xs)
          ≡ update_at i (λ slot. record { generation = slot.generation; status = Living; row = f row }) xs
      twice i [] = refl
      twice zero (x ∷ xs) = refl
      twice (suc i) (x ∷ xs) = ap (λ ys. x ∷ ys) (twice i xs)

  -- a component more
  inserted : (t passed : ℕ) (g : Given) (row : List Component) → apply_command t (record { slots = with_new row slots; passed_over = passed }) (Command.Insert (next_id slots) g.kind g.words)
      ≡ record { slots = with_new (insert_component t g.kind g.words row) slots; passed_over = passed }
  inserted t passed g row =
      let f : List Component → List Component = insert_component t g.kind g.words in
      let done : CommandTarget = record { slots = update_at (next_id slots).index (with_row f) (with_new row slots); passed_over = passed } in
      let over : CommandTarget = record { slots = with_new row slots; passed_over = min (suc passed) most_passed_over } in
      ap (λ b. cond b done over) (alive row)
      ∙ ap (λ xs. let target : CommandTarget = record { slots = xs; passed_over = passed } in target) (row_changed f row)

  -- all its components
  all_inserted : (t passed : ℕ) (given : List Given) (row : List Component) →
      apply_buffer t (record { slots = with_new row slots; passed_over = passed }) (map (λ g. Command.Insert (next_id slots) g.kind g.words) given)
      ≡ record { slots = with_new (fold (λ row g. insert_component t g.kind g.words row) row given) slots; passed_over = passed }
  all_inserted t passed [] row = refl
  all_inserted t passed (g ∷ gs) row =
      ap (λ target. apply_buffer t target (map (λ g. Command.Insert (next_id slots) g.kind g.words) gs)) (inserted t passed g row)
      ∙ all_inserted t passed gs (insert_component t g.kind g.words row)

  -- what the commands of a new entity leave
  pub commands_done : (t passed : ℕ) (given : List Given) → apply_buffer t (record { slots = grant 1 slots; passed_over = passed }) (commands_for (next_id slots) given)
      ≡ record { slots = with_new (row_at_tick t given) slots; passed_over = passed }
  commands_done t passed given =
      ap (λ xs. apply_buffer t (record { slots = xs; passed_over = passed }) (map (λ g. Command.Insert (next_id slots) g.kind g.words) given)) spawned_new
      ∙ all_inserted t passed given []

-- ---- the state

-- a world whose last tick is given back
pub gave_back : (w x : World) → x ≡ at_clock (suc w.clock) w → at_clock (x.clock - 1) x ≡ w
gave_back w x e = ap (λ (y : World). at_clock (y.clock - 1) y) e ∙ ap (λ n. at_clock n w) (let same : suc w.clock - 1 ≡ w.clock = omega arith in same)

-- the state with a new entity is the one after the input
pub state_spawned : (given : List Given) (w middle : State) (world : World) → middle ≡ ticked w → world ≡ with_slots (with_new (row_at_tick (next_tick w) given)) middle.world →
    counted_state world middle.events middle.systems middle.conditions middle.passed_over ≡ after_input (Spawn given) w
state_spawned given w middle world e f =
    ap (λ x. counted_state x middle.events middle.systems middle.conditions middle.passed_over) f
    ∙ ap (λ (m : State). counted_state (with_slots (with_new (row_at_tick (next_tick w) given)) m.world) m.events m.systems m.conditions m.passed_over) e
    ∙ ap (λ (t : CommandTarget). counted_state (record { slots = t.slots; resources = w.world.resources; clock = next_tick w }) w.events w.systems w.conditions t.passed_over)
    (sym (commands_done w.world.slots (next_tick w) w.passed_over given))
