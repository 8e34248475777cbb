use Rattle.std.proofs.Common.{◌≡◌, ◌++◌, map, take, drop}
use Rattle.model.specs.state.Events.{updated_queue}
use Rattle.event_buffers.proofs.buffers.Events.update.Given as goal

abbrev pub invariant-loop-queue : goal.invariant-loop-queue
invariant-loop-queue l = l.queue-items ≡ map updated_queue (take l.queue-index l.initial.queue-items) ++ drop l.queue-index l.initial.queue-items
