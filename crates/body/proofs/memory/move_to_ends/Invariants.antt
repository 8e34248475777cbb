use Rattle.std.proofs.Common.{◌≡◌, ◌++◌, map, take, drop}
use Rattle.kinds.specs.declared.res.Event.{Event}
use Rattle.kinds.specs.Res.{event_number}
use Rattle.model.specs.state.Events.{queue_of}
use Rattle.body.proofs.memory.move_to_ends.Given as goal

abbrev pub invariant-loop-at : goal.invariant-loop-at
invariant-loop-at l = l.cursors ≡ map (λ (kind : Event). (queue_of l.events (event_number kind)).next) (take l.at l.reads) ++ drop l.at l.initial.cursors
