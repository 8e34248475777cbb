-- The state at a sync point: its commands are done, and its ids are freed, one system after the other.
use Rattle.std.proofs.Common.{◌≡◌, ℕ, ◌+◌, ◌<◌, List, [], length, get_or, drop, sym, ap, subst, ◌∙◌}
use Rattle.std.specs.Global.{Vec}
use Rattle.std.specs.Vec.{with_items}
use Rattle.std.proofs.lemmas.List.{drop_more, with_items_is}
use Rattle.model.specs.declared.entities.Entity.{Entity}
use Rattle.model.specs.state.State.{State}
use Rattle.model.specs.state.Commands.{apply_buffer, release}
use Rattle.model.specs.shown.Outcome.{Command}
use Rattle.model.specs.steps.Schedule.{Schedule}
use Rattle.model.specs.steps.Built.{IsBuilt}
use Rattle.model.specs.runs.RunState.{next_tick, systems_of_level, after_commands}
use Rattle.model.proofs.serial.Engine.{release-none, synced_state}
use Rattle.command_queue.specs.Commands.{commands_of}
use Rattle.body.specs.Steps.{StateValue, at_clock, target_in, with_slots_in, with_target}
use Rattle.engine.specs.Deferred.{DeferredValue, emptied, grants_of, run_with, IsDeferredFor, AreInHand}
use Rattle.engine.proofs.SyncPoint.{release_joined, in_hand_synced, length-emptied, without_systems, run_synced}

-- a state with ids freed
abbrev pub freed_in : List Entity → StateValue → StateValue
freed_in ids s = record { state = with_slots_in (release ids s.state.world.slots) s.state; layout = s.layout }

-- one system more
pub freed_more : (grants : List (List Entity)) (level : List ℕ) (i d : ℕ) (ids : List Entity) (s : StateValue) → i < length level → ids ≡ get_or grants (get_or level i d) [] →
    freed_in (grants_of grants (drop (i + 1) level)) (freed_in ids s) ≡ freed_in (grants_of grants (drop i level)) s
freed_more grants level i d ids s within e =
    ap (λ (xs : List Entity). freed_in (grants_of grants (drop (i + 1) level)) (freed_in xs s)) e
    ∙ ap (λ slots. let v : StateValue = record { state = with_slots_in slots s.state; layout = s.layout } in v) (sym (release_joined (get_or grants (get_or level i d) []) (grants_of grants (drop (i + 1) level)) s.state.world.slots))
    ∙ ap (λ ns. freed_in (grants_of grants ns) s) (sym (drop_more level i d within))

-- no system is deferred
pub freed_none : (s : StateValue) → freed_in [] s ≡ s
freed_none s = ap (λ slots. let v : StateValue = record { state = with_slots_in slots s.state; layout = s.layout } in v) (release-none s.state.world.slots)

-- ---- the steps of a sync point

-- the state at the next tick, with commands done at it, with ids freed
pub record Synced (ids : List Entity) (commands : List Command) (before after : StateValue) : Type 0 where
  pub ticked : StateValue
  pub applied : StateValue
  pub tick : ℕ
  pub tick_is : tick ≡ next_tick before.state
  pub ticked_is : ticked ≡ record { state = at_clock (next_tick before.state) before.state; layout = before.layout }
  pub applied_is : applied.state ≡ with_target (apply_buffer tick (target_in ticked.state) commands) ticked.state
  pub freed_is : after ≡ freed_in ids applied

-- is the state after the commands of a level and the release of its ids
pub state_synced : (ids : List Entity) (commands : List Command) (before after : StateValue) → Synced ids commands before after → after.state ≡ synced_state ids commands before.state
state_synced ids commands before after h =
    ap (λ (s : StateValue). s.state) h.freed_is
    ∙ ap (λ (state : State). with_slots_in (release ids state.world.slots) state) (h.applied_is
    ∙ ap (λ (s : StateValue). with_target (apply_buffer h.tick (target_in s.state) commands) s.state) h.ticked_is
    ∙ ap (λ (tick : ℕ). with_target (apply_buffer tick (target_in before.state) commands) (at_clock (next_tick before.state) before.state)) h.tick_is)

-- the run state after the commands of a level
pub sync_is : (s : Schedule) (p : ℕ) (level : List ℕ) (deferred now : DeferredValue) (before after : StateValue) → IsBuilt s → IsDeferredFor s deferred → level ≡ systems_of_level s p →
    Synced (grants_of deferred.grants level) (commands_of deferred.commands level) before after → now ≡ without_systems level deferred →
    run_with after.state now ≡ after_commands s p (run_with before.state deferred)
sync_is s p level deferred now before after built suits e h gone =
    ap (run_with after.state) gone
    ∙ ap (λ state. run_with state (without_systems level deferred)) (state_synced (grants_of deferred.grants level) (commands_of deferred.commands level) before after h)
    ∙ ap (λ ns. run_with (synced_state (grants_of deferred.grants ns) (commands_of deferred.commands ns) before.state) (without_systems ns deferred)) e
    ∙ run_synced s p deferred before.state built suits

-- what is in hand then
pub sync_in_hand : (level : List ℕ) (deferred now : DeferredValue) (before after : StateValue) → AreInHand before.state.world.slots deferred →
    Synced (grants_of deferred.grants level) (commands_of deferred.commands level) before after → now ≡ without_systems level deferred → AreInHand after.state.world.slots now
sync_in_hand level deferred now before after held h gone =
    subst (λ (l : DeferredValue). AreInHand after.state.world.slots l) (sym gone)
    (subst (λ (state : State). AreInHand state.world.slots (without_systems level deferred)) (sym (state_synced (grants_of deferred.grants level) (commands_of deferred.commands level) before after h))
    (in_hand_synced (next_tick before.state) (target_in before.state) level deferred held))

-- ---- what is deferred is emptied

pub emptied_items : {A : Type 0} (level : List ℕ) (v : Vec (List A)) (was now : List (List A)) → was ≡ v.items → now ≡ emptied level was → (with_items v now).items ≡ emptied level v.items
emptied_items level v was now e f =
    let g = f ∙ ap (emptied level) e in
    with_items_is v now (ap length g ∙ length-emptied level v.items ∙ sym v.ok.0) ∙ g
