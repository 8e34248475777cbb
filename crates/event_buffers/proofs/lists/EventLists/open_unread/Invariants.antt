-- The lists so far are those of the kinds so far.
use Rattle.std.proofs.Common.{◌≡◌, map, take}
use Rattle.kinds.specs.Res.{event_number}
use Rattle.event_buffers.proofs.ListsOfEvents.{unread_lists}
use Rattle.event_buffers.proofs.lists.EventLists.open_unread.Given as goal

abbrev pub invariant-loop-place : goal.invariant-loop-place
invariant-loop-place l = l.self ≡ unread_lists l.events (map event_number (take l.place l.kinds)) l.cursors
