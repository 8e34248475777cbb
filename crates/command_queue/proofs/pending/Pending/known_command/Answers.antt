use Rattle.std.proofs.Common.{◌∷◌, [], sym, ap, ap₂, subst, refl, ◌∙◌}
use Rattle.model.specs.state.Commands.{CommandTarget}
use Rattle.model.specs.shown.Outcome.{spawned_by}
use Rattle.archetype_store.specs.Changes.{changed}
use Rattle.command_queue.specs.Commands.{command_of}
use Rattle.command_queue.specs.Pending.{bare_change, AreChanges, CanSpawn, target_of}
use Rattle.command_queue.proofs.Targets.{granted_unchanged}
use Rattle.command_queue.proofs.Spawns.{spawned_changes, spawned_slots}
use Rattle.command_queue.proofs.pending.Pending.known_command.Goals as goal

pub add_bare-requires-clause-first : goal.add_bare-requires-clause-first
add_bare-requires-clause-first c =
    let w = c.args.world.now.state in
    let can = subst (λ x. CanSpawn (target_of w c.args.self.now).slots (spawned_by (command_of x ∷ []))) c.in-Spawn.is c.requires.spawns in
    granted_unchanged w c.args.self.now.changes.items c.requires.pending.changes c.in-Spawn.e can.0

pub returns-in_ok-add_bare-in-Spawn-clause-pending : goal.returns-in_ok-add_bare-in-Spawn-clause-pending
returns-in_ok-add_bare-in-Spawn-clause-pending c =
    let w = c.args.world.now.state in
    let can = subst (λ x. CanSpawn (target_of w c.args.self.now).slots (spawned_by (command_of x ∷ []))) c.in-Spawn.is c.requires.spawns in
    let a = c.in_ok-add_bare-in-Spawn.ensures in
    record {
      changes = subst (AreChanges w) (sym a.changes) (spawned_changes w c.args.self.now.changes.items c.requires.pending.changes c.in-Spawn.e can.0 (bare_change c.in-Spawn.e).fate refl refl);
      places = a.placed;
    }

pub returns-in_ok-add_bare-in-Spawn-clause-done : goal.returns-in_ok-add_bare-in-Spawn-clause-done
returns-in_ok-add_bare-in-Spawn-clause-done c =
    let w = c.args.world.now.state in
    let can = subst (λ x. CanSpawn (target_of w c.args.self.now).slots (spawned_by (command_of x ∷ []))) c.in-Spawn.is c.requires.spawns in
    let a = c.in_ok-add_bare-in-Spawn.ensures in
    rw c.in-Spawn.is (ap₂ (λ slots passed. let t : CommandTarget = record { slots = slots; passed_over = passed } in t)
    (ap (λ ds. changed ds w.slots) a.changes ∙ spawned_slots w c.args.self.now.changes.items c.requires.pending.changes c.in-Spawn.e can.0 (bare_change c.in-Spawn.e).fate refl refl) a.passed)

pub returns-in-Remove-clause-done : goal.returns-in-Remove-clause-done
returns-in-Remove-clause-done c = rw c.in-Remove.is (c.remove.ensures.done c.args.tick)

pub returns-in-Despawn-clause-done : goal.returns-in-Despawn-clause-done
returns-in-Despawn-clause-done c = rw c.in-Despawn.is (c.despawn.ensures.done c.args.tick)
