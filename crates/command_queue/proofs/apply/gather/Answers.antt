use Rattle.std.proofs.Common.{◌≡◌, ◌+◌, ◌++◌, [], drop, get_or, map, sym, ap, ap₂, subst, refl, ◌∙◌}
use Rattle.std.proofs.lemmas.List.{at_drop_more, get_or_default}
use Rattle.std.proofs.lemmas.List.Sums.{fold-append}
use Rattle.model.specs.state.State.{fresh_slot}
use Rattle.model.specs.state.Commands.{CommandTarget, apply_command, apply_buffer}
use Rattle.model.specs.shown.Outcome.{spawned_by}
use Rattle.model.proofs.lists.Lists.{map_index-id}
use Rattle.archetype_store.specs.Changes.{change_at, changed}
use Rattle.command_queue.specs.Commands.{command_of, commands_of}
use Rattle.command_queue.specs.Pending.{AreChanges, ArePlaced, CanSpawn, target_of}
use Rattle.command_queue.proofs.Spawns.{can_spawn-front, can_spawn-rest}
use Rattle.command_queue.proofs.apply.gather.Goals as goal

pub loop-number-init : goal.loop-number-init
loop-number-init c =
    let w = c.args.world.now.state in
    let en = c.in_ok-pending.ensures in
    let all = commands_of c.args.buffers.now c.args.order.now in
    let start : target_of w c.in_ok-pending.pending ≡ record { slots = w.slots; passed_over = 0 } =
    ap₂ (λ slots passed. let t : CommandTarget = record { slots = slots; passed_over = passed } in t) (ap (λ cs. changed cs w.slots) en.changes ∙ map_index-id (change_at []) fresh_slot w.slots (λ i. refl)) en.passed in
    record {
      pending = record {
        changes = subst (AreChanges w) (sym en.changes) (record { apart = tt; can = tt });
        places = subst (ArePlaced c.in_ok-pending.pending.places) (sym en.changes) en.places;
      };
      spawns = subst (λ (t : CommandTarget). CanSpawn t.slots (spawned_by all)) (sym start) c.requires.spawns;
      done = ap (λ t. apply_buffer c.args.tick t all) start;
    }

pub buffer-requires-clause-spawns : goal.buffer-requires-clause-spawns
buffer-requires-clause-spawns c =
    let w = c.args.world.now.state in
    let bs = c.args.buffers.now in
    let ns = c.args.order.now in
    let i = c.loop-number.number-index in
    let n = get_or ns i 0 in
    let rest = commands_of bs (drop (i + 1) ns) in
    let more : commands_of bs (drop i ns) ≡ get_or bs n [] ++ rest = at_drop_more (commands_of bs) ns i 0 c.loop-number-test.true in
    let its : map command_of c.commands-commands.result.now ≡ get_or bs n [] =
    c.commands-commands.ensures ∙ c.index-buffers-number.is ∙ get_or_default bs n c.index-buffers-number.result [] (c.requires.known i 0 c.loop-number-test.true) in
    let slots = (target_of w c.loop-number.pending).slots in
    let can = subst (λ ds. CanSpawn slots (spawned_by ds)) more c.loop-number.invariant.spawns in
    subst (λ ds. CanSpawn slots (spawned_by ds)) (sym its) (can_spawn-front slots (get_or bs n []) rest can)

pub loop-number-preserved : goal.loop-number-preserved
loop-number-preserved c =
    let w = c.args.world.now.state in
    let bs = c.args.buffers.now in
    let ns = c.args.order.now in
    let i = c.loop-number.number-index in
    let n = get_or ns i 0 in
    let rest = commands_of bs (drop (i + 1) ns) in
    let more : commands_of bs (drop i ns) ≡ get_or bs n [] ++ rest = at_drop_more (commands_of bs) ns i 0 c.loop-number-test.true in
    let its : map command_of c.commands-commands.result.now ≡ get_or bs n [] =
    c.commands-commands.ensures ∙ c.index-buffers-number.is ∙ get_or_default bs n c.index-buffers-number.result [] (c.requires.known i 0 c.loop-number-test.true) in
    let before = target_of w c.loop-number.pending in
    let can = subst (λ ds. CanSpawn before.slots (spawned_by ds)) more c.loop-number.invariant.spawns in
    let done = c.in_ok-buffer.ensures.done ∙ ap (apply_buffer c.args.tick before) its in
    record {
      pending = c.in_ok-buffer.ensures.pending;
      spawns = subst (λ (t : CommandTarget). CanSpawn t.slots (spawned_by rest)) (sym done) (can_spawn-rest c.args.tick before (get_or bs n []) rest can);
      done = ap (λ t. apply_buffer c.args.tick t rest) done
          ∙ sym (fold-append (apply_command c.args.tick) before (get_or bs n []) rest)
          ∙ sym (ap (apply_buffer c.args.tick before) more) ∙ c.loop-number.invariant.done;
    }
