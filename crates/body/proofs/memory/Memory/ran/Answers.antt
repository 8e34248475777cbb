use Rattle.std.proofs.Common.{ℕ, List, length, map, sym, ◌∙◌, ap}
use Rattle.std.proofs.lemmas.List.{with_items_is}
use Rattle.kinds.specs.Res.{event_number}
use Rattle.model.specs.state.State.{Memory}
use Rattle.model.specs.state.Events.{queue_of}
use Rattle.model.specs.runs.RunState.{memory_after_run}
use Rattle.body.proofs.States.{map-twice}
use Rattle.body.proofs.memory.Memory.ran.Goals as goal

pub returns : goal.returns
returns c =
    let inside = c.self.inside in
    let reads = c.args.reads.now in
    let queues = c.args.events.now in
    let whole = with_items_is inside.cursors c.move_to_ends.new.cursors (c.move_to_ends.auto.cursors ∙ ap length c.deref_mut.ensures.value ∙ sym inside.cursors.ok.0)
    ∙ c.move_to_ends.ensures ∙ sym (map-twice event_number (λ kind. (queue_of queues kind).next) reads) in
    ap (λ (cursors : List ℕ). let m : Memory = record { last_run = c.args.tick; cursors = cursors; registers = inside.registers } in m) whole
    ∙ ap (memory_after_run c.args.tick (map event_number reads) queues) c.self.view_is
