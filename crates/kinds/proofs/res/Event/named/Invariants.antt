use Rattle.std.proofs.Common.{◌≡◌, ◌<◌}
use Rattle.kinds.specs.declared.res.Event.{Event}
use Rattle.kinds.specs.Res.{event_number, event_name}
use Rattle.kinds.proofs.res.Event.named.Given as goal

abbrev pub invariant-loop-event : goal.invariant-loop-event
invariant-loop-event l = (k : Event) → event_number k < l.event-index → l.word ≡ event_name k → ⊥
