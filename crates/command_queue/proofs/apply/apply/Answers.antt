use Rattle.std.proofs.Common.{sym, subst}
use Rattle.model.specs.shown.Outcome.{spawned_by}
use Rattle.archetype_store.specs.Store.{StoreValue}
use Rattle.command_queue.specs.Commands.{commands_of}
use Rattle.command_queue.specs.Pending.{CanSpawn}
use Rattle.command_queue.proofs.Spawns.{can_spawn_granted}
use Rattle.command_queue.proofs.apply.apply.Goals as goal

pub gather-requires-clause-spawns : goal.gather-requires-clause-spawns
gather-requires-clause-spawns c =
    let ids = spawned_by (commands_of c.args.buffers.now c.args.order.now) in
    subst (λ (w : StoreValue). CanSpawn w.state.slots ids) (sym c.take_change_list-list.ensures.same) (can_spawn_granted c.args.world.now.state.slots ids c.requires.granted c.requires.apart)
