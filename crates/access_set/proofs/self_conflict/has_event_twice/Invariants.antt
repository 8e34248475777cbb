-- One stands twice just where one of what is left does.
use Rattle.std.proofs.Common.{◌≡◌, map, length}
use Rattle.kinds.specs.Res.{event_number}
use Rattle.model.specs.access.QueryFaults.{has_twice}
use Rattle.access_set.proofs.self_conflict.has_event_twice.Given as goal

abbrev pub invariant-loop-event : goal.invariant-loop-event
invariant-loop-event l = has_twice (map event_number l.events) ≡ has_twice (map event_number l.rest)

abbrev pub decreases-loop-event : goal.decreases-loop-event
decreases-loop-event l = length l.rest
