use Rattle.std.proofs.Common.{◌≡◌, rules, List, [], ◌∙◌, ap, refl, subst, sym, length, get_or}
use Rattle.std.specs.Prelude.{All}
use Rattle.model.specs.declared.entities.Entity.{Entity}
use Rattle.model.specs.state.State.{Slot}
use Rattle.model.specs.shown.Outcome.{Command, spawned_by}
use Rattle.command_queue.specs.Commands.{commands_of}
use Rattle.entity_table.specs.Ids.{IsGranted, AreApart}
use Rattle.body.specs.Steps.{StateValue}
use Rattle.engine.specs.Deferred.{DeferredValue, IsNothingDeferred, grants_of}
use Rattle.engine.proofs.SyncPoint.{without_systems, level_is, level_known, level_once, level_granted, level_apart}
use Rattle.engine.proofs.LevelCommands.{nothing_there, quiet_synced}
use Rattle.engine.proofs.EmptySyncPoint.{idle_gone, idle_synced}
use Rattle.engine.proofs.SyncPointState.{Synced, emptied_items, sync_is, sync_in_hand}
use Rattle.engine.proofs.deferred.Deferred.finish_level.Goals as goal

pub have_commands-commanded-requires : goal.have_commands-commanded-requires
have_commands-commanded-requires c =
    let deferred = c.args.self.now in
    let level = c.systems_of-systems.result.now in
    let found = c.systems_of-systems.ensures ∙ ap (λ lists. get_or lists c.args.point []) (c.deref.ensures.value ∙ ap (λ (l : DeferredValue). l.levels) c.self.view_is) in
    level_known c.args.built.now c.args.point deferred c.prove_law.ensures c.requires.home.suits c.requires.known level found (length c.deref-2.result.now) (ap length c.deref-2.ensures.value ∙ ap (λ (l : DeferredValue). length l.commands) c.self.view_is ∙ c.requires.home.suits.command_count)

pub apply-requires-clause-known : goal.apply-requires-clause-known
apply-requires-clause-known c =
    let deferred = c.args.self.now in
    let level = c.systems_of-systems.result.now in
    let found = c.systems_of-systems.ensures ∙ ap (λ lists. get_or lists c.args.point []) (c.deref.ensures.value ∙ ap (λ (l : DeferredValue). l.levels) c.self.view_is) in
    level_known c.args.built.now c.args.point deferred c.prove_law.ensures c.requires.home.suits c.requires.known level found (length c.deref-3.result.now) (ap length c.deref-3.ensures.value ∙ ap (λ (l : DeferredValue). length l.commands) c.self.view_is ∙ c.requires.home.suits.command_count)

pub apply-requires-clause-granted : goal.apply-requires-clause-granted
apply-requires-clause-granted c =
    let deferred = c.args.self.now in
    let level = c.systems_of-systems.result.now in
    let buffers : c.deref-3.result.now ≡ deferred.commands = c.deref-3.ensures.value ∙ ap (λ (l : DeferredValue). l.commands) c.self.view_is in
    let slots : c.next.new.self.state.world.slots ≡ c.args.state.now.state.world.slots = ap (λ (s : StateValue). s.state.world.slots) c.in_ok-tick.ensures.moved in
    subst (λ (bs : List (List Command)). All (IsGranted c.next.new.self.state.world.slots) (spawned_by (commands_of bs level))) (sym buffers)
    (subst (λ (xs : List Slot). All (IsGranted xs) (spawned_by (commands_of deferred.commands level))) (sym slots)
    (level_granted c.args.state.now.state.world.slots deferred c.requires.home.ids level))

pub apply-requires-clause-apart : goal.apply-requires-clause-apart
apply-requires-clause-apart c =
    let deferred = c.args.self.now in
    let level = c.systems_of-systems.result.now in
    let found = c.systems_of-systems.ensures ∙ ap (λ lists. get_or lists c.args.point []) (c.deref.ensures.value ∙ ap (λ (l : DeferredValue). l.levels) c.self.view_is) in
    let buffers : c.deref-3.result.now ≡ deferred.commands = c.deref-3.ensures.value ∙ ap (λ (l : DeferredValue). l.commands) c.self.view_is in
    subst (λ (bs : List (List Command)). AreApart (spawned_by (commands_of bs level))) (sym buffers)
    (level_apart c.args.state.now.state.world.slots deferred c.requires.home.ids level (level_once c.args.built.now c.args.point deferred c.prove_law.ensures c.requires.home.suits c.requires.known level found))

pub free_ids-requires : goal.free_ids-requires
free_ids-requires c =
    let deferred = c.args.self.now in
    let level = c.systems_of-systems.result.now in
    let found = c.systems_of-systems.ensures ∙ ap (λ lists. get_or lists c.args.point []) (c.deref.ensures.value ∙ ap (λ (l : DeferredValue). l.levels) c.self.view_is) in
    level_known c.args.built.now c.args.point deferred c.prove_law.ensures c.requires.home.suits c.requires.known level found (length c.deref-4.result.now) (ap length c.deref-4.ensures.value ∙ ap (λ (l : DeferredValue). length l.grants) c.self.view_is ∙ c.requires.home.suits.grant_count)

pub clear_places-requires-clause-commands : goal.clear_places-requires-clause-commands
clear_places-requires-clause-commands c =
    let deferred = c.args.self.now in
    let level = c.systems_of-systems.result.now in
    let found = c.systems_of-systems.ensures ∙ ap (λ lists. get_or lists c.args.point []) (c.deref.ensures.value ∙ ap (λ (l : DeferredValue). l.levels) c.self.view_is) in
    level_known c.args.built.now c.args.point deferred c.prove_law.ensures c.requires.home.suits c.requires.known level found (length c.deref_mut.result.now) (ap length c.deref_mut.ensures.value ∙ ap (λ (l : DeferredValue). length l.commands) c.self.view_is ∙ c.requires.home.suits.command_count)

pub clear_places-requires-clause-grants : goal.clear_places-requires-clause-grants
clear_places-requires-clause-grants c =
    let deferred = c.args.self.now in
    let level = c.systems_of-systems.result.now in
    let found = c.systems_of-systems.ensures ∙ ap (λ lists. get_or lists c.args.point []) (c.deref.ensures.value ∙ ap (λ (l : DeferredValue). l.levels) c.self.view_is) in
    level_known c.args.built.now c.args.point deferred c.prove_law.ensures c.requires.home.suits c.requires.known level found (length c.deref_mut-2.result.now) (ap length c.deref_mut-2.ensures.value ∙ ap (λ (l : DeferredValue). length l.grants) c.self.view_is ∙ c.requires.home.suits.grant_count)

-- where nothing is deferred only the clock moves
pub returns-then-not-self-clause-synced : goal.returns-then-not-self-clause-synced
returns-then-not-self-clause-synced c =
    let s = c.args.built.now in
    let deferred = c.args.self.now in
    let level = get_or deferred.levels c.args.point [] in
    let still = c.self.invariant c.if-not-self.true in
    let none : IsNothingDeferred deferred = subst IsNothingDeferred c.self.view_is (record { no_commands = still.0; no_grants = still.1 }) in
    sync_is s c.args.point level deferred deferred c.args.state.now c.next.new.self c.prove_law.ensures c.requires.home.suits
    (level_is s c.args.point deferred c.prove_law.ensures c.requires.home.suits c.requires.known level refl)
    (idle_synced deferred none level c.args.state.now c.next.new.self c.in_ok-tick.ensures.moved) (idle_gone deferred none level)

pub returns-then-not-self-clause-home : goal.returns-then-not-self-clause-home
returns-then-not-self-clause-home c =
    let deferred = c.args.self.now in
    let level = get_or deferred.levels c.args.point [] in
    let still = c.self.invariant c.if-not-self.true in
    let none : IsNothingDeferred deferred = subst IsNothingDeferred c.self.view_is (record { no_commands = still.0; no_grants = still.1 }) in
    record {
      home = search rules;
      suits = c.requires.home.suits;
      ids = sync_in_hand level deferred deferred c.args.state.now c.next.new.self c.requires.home.ids
          (idle_synced deferred none level c.args.state.now c.next.new.self c.in_ok-tick.ensures.moved) (idle_gone deferred none level);
    }

pub returns-clause-synced : goal.returns-clause-synced
returns-clause-synced c =
    let deferred = c.args.self.now in
    let level = c.systems_of-systems.result.now in
    let found = c.systems_of-systems.ensures ∙ ap (λ lists. get_or lists c.args.point []) (c.deref.ensures.value ∙ ap (λ (l : DeferredValue). l.levels) c.self.view_is) in
    let before = c.args.state.now in
    let after = c.free_ids.new.state in
    let buffers : c.deref-3.result.now ≡ deferred.commands = c.deref-3.ensures.value ∙ ap (λ (l : DeferredValue). l.commands) c.self.view_is in
    let granted : c.deref-4.result.now ≡ deferred.grants = c.deref-4.ensures.value ∙ ap (λ (l : DeferredValue). l.grants) c.self.view_is in
    let done : Synced (grants_of c.deref-4.result.now level) (commands_of c.deref-3.result.now level) before after = record {
      ticked = c.next.new.self;
      applied = c.apply.new.self;
      tick = c.in_ok-tick.tick;
      tick_is = c.in_ok-tick.ensures.ok;
      ticked_is = c.in_ok-tick.ensures.moved;
      applied_is = c.in_ok-apply.ensures.applied;
      freed_is = c.free_ids.ensures;
    } in
    let synced : Synced (grants_of deferred.grants level) (commands_of deferred.commands level) before after =
    subst (λ (gs : List (List Entity)). Synced (grants_of gs level) (commands_of deferred.commands level) before after) granted
    (subst (λ (bs : List (List Command)). Synced (grants_of c.deref-4.result.now level) (commands_of bs level) before after) buffers done) in
    let inside = c.self.inside in
    let commands = emptied_items level inside.commands c.deref_mut.result.now c.clear_places.new.commands c.deref_mut.ensures.value c.clear_places.ensures.commands in
    let grants = emptied_items level inside.grants c.deref_mut-2.result.now c.clear_places.new.grants c.deref_mut-2.ensures.value c.clear_places.ensures.grants in
    let gone = (λ i. let l : DeferredValue = record { levels = inside.levels.items; spawners = inside.spawners.items; commands = commands i; grants = grants i } in l) ∙ ap (without_systems level) c.self.view_is in
    sync_is c.args.built.now c.args.point level deferred _ before after c.prove_law.ensures c.requires.home.suits
    (level_is c.args.built.now c.args.point deferred c.prove_law.ensures c.requires.home.suits c.requires.known level found) synced gone

pub returns-clause-home : goal.returns-clause-home
returns-clause-home c =
    let deferred = c.args.self.now in
    let level = c.systems_of-systems.result.now in
    let before = c.args.state.now in
    let after = c.free_ids.new.state in
    let buffers : c.deref-3.result.now ≡ deferred.commands = c.deref-3.ensures.value ∙ ap (λ (l : DeferredValue). l.commands) c.self.view_is in
    let granted : c.deref-4.result.now ≡ deferred.grants = c.deref-4.ensures.value ∙ ap (λ (l : DeferredValue). l.grants) c.self.view_is in
    let done : Synced (grants_of c.deref-4.result.now level) (commands_of c.deref-3.result.now level) before after = record {
      ticked = c.next.new.self;
      applied = c.apply.new.self;
      tick = c.in_ok-tick.tick;
      tick_is = c.in_ok-tick.ensures.ok;
      ticked_is = c.in_ok-tick.ensures.moved;
      applied_is = c.in_ok-apply.ensures.applied;
      freed_is = c.free_ids.ensures;
    } in
    let synced : Synced (grants_of deferred.grants level) (commands_of deferred.commands level) before after =
    subst (λ (gs : List (List Entity)). Synced (grants_of gs level) (commands_of deferred.commands level) before after) granted
    (subst (λ (bs : List (List Command)). Synced (grants_of c.deref-4.result.now level) (commands_of bs level) before after) buffers done) in
    let inside = c.self.inside in
    let commands = emptied_items level inside.commands c.deref_mut.result.now c.clear_places.new.commands c.deref_mut.ensures.value c.clear_places.ensures.commands in
    let grants = emptied_items level inside.grants c.deref_mut-2.result.now c.clear_places.new.grants c.deref_mut-2.ensures.value c.clear_places.ensures.grants in
    let gone = (λ i. let l : DeferredValue = record { levels = inside.levels.items; spawners = inside.spawners.items; commands = commands i; grants = grants i } in l) ∙ ap (without_systems level) c.self.view_is in
    record {
      home = search rules;
      suits = search rules;
      ids = sync_in_hand level deferred _ before after c.requires.home.ids synced gone;
    }

pub returns-clause-quiet : goal.returns-clause-quiet
returns-clause-quiet c = λ quiet.
    let level = c.systems_of-systems.result.now in
    let done : Synced (grants_of c.deref-4.result.now level) (commands_of c.deref-3.result.now level) c.args.state.now c.free_ids.new.state = record {
      ticked = c.next.new.self;
      applied = c.apply.new.self;
      tick = c.in_ok-tick.tick;
      tick_is = c.in_ok-tick.ensures.ok;
      ticked_is = c.in_ok-tick.ensures.moved;
      applied_is = c.in_ok-apply.ensures.applied;
      freed_is = c.free_ids.ensures;
    } in
    let same : c.deref-3.result.now ≡ c.deref-2.result.now = c.deref-3.ensures.value ∙ sym c.deref-2.ensures.value in
    let none : commands_of c.deref-3.result.now level ≡ [] =
    ap (λ (bs : List (List Command)). commands_of bs level) same ∙ nothing_there (commands_of c.deref-2.result.now level) (sym c.have_commands-commanded.ensures ∙ quiet) in
    quiet_synced (grants_of c.deref-4.result.now level) (commands_of c.deref-3.result.now level) c.args.state.now c.free_ids.new.state done none
