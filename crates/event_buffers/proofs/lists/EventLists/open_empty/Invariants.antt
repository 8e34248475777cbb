-- The lists so far are those of the kinds so far.
use Rattle.std.proofs.Common.{◌≡◌, map, take}
use Rattle.kinds.specs.Res.{event_number}
use Rattle.event_buffers.proofs.ListsOfEvents.{empty_lists}
use Rattle.event_buffers.proofs.lists.EventLists.open_empty.Given as goal

abbrev pub invariant-loop-kind : goal.invariant-loop-kind
invariant-loop-kind l = l.self ≡ empty_lists (map event_number (take l.kind-index l.kinds))
