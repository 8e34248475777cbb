use Rattle.std.proofs.Common.{◌≡◌, ◌+◌, ◌∷◌, drop, get_or, map, sym, ap, subst, ◌∙◌}
use Rattle.std.proofs.lemmas.List.{drop_more}
use Rattle.model.specs.state.Commands.{CommandTarget, apply_buffer}
use Rattle.model.specs.shown.Outcome.{spawned_by}
use Rattle.command_queue.specs.declared.command.Command.{Command}
use Rattle.command_queue.specs.declared.command.Command.TheVariants as the
use Rattle.command_queue.specs.Commands.{command_of}
use Rattle.command_queue.specs.Pending.{CanSpawn, target_of}
use Rattle.command_queue.proofs.Spawns.{can_spawn-next}
use Rattle.command_queue.proofs.pending.Pending.buffer.Goals as goal

pub loop-command-preserved : goal.loop-command-preserved
loop-command-preserved c =
    let w = c.args.world.now.state in
    let cs = c.args.commands.now in
    let i = c.loop-command.command-index in
    let d : Command = the.Spawn (record { index = 0; generation = 0 }) in
    let x = get_or cs i d in
    let more : map command_of (drop i cs) ≡ command_of x ∷ map command_of (drop (i + 1) cs) = ap (map command_of) (drop_more cs i d c.loop-command-test.true) in
    let done = c.in_ok-command.ensures.done in
    let can = subst (λ ds. CanSpawn (target_of w c.loop-command.self).slots (spawned_by ds)) more c.loop-command.invariant.spawns in
    record {
      pending = c.in_ok-command.ensures.pending;
      spawns = subst (λ (t : CommandTarget). CanSpawn t.slots (spawned_by (map command_of (drop (i + 1) cs)))) (sym done) (can_spawn-next c.args.tick (target_of w c.loop-command.self) (command_of x) (map command_of (drop (i + 1) cs)) can);
      done = ap (λ t. apply_buffer c.args.tick t (map command_of (drop (i + 1) cs))) done
          ∙ sym (ap (apply_buffer c.args.tick (target_of w c.loop-command.self)) more) ∙ c.loop-command.invariant.done;
    }
