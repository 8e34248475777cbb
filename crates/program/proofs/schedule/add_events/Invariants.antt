use Rattle.std.proofs.Common.{◌≡◌, ◌++◌, map, take}
use Rattle.kinds.specs.Res.{event_number}
use Rattle.program.proofs.schedule.add_events.Given as goal

-- the event kinds so far after the others
abbrev pub invariant-loop-event : goal.invariant-loop-event
invariant-loop-event l = l.params ≡ record l.fn.params { reads = l.fn.params.reads ++ map event_number (take l.event-index l.reads) }

abbrev pub invariant-loop-event-2 : goal.invariant-loop-event-2
invariant-loop-event-2 l = l.params ≡ record l.fn.params { reads = l.fn.params.reads ++ map event_number l.reads; writes = l.fn.params.writes ++ map event_number (take l.event-index l.writes) }
