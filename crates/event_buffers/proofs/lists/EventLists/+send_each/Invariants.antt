use Rattle.std.proofs.Common.{length}
use Rattle.event_buffers.proofs.lists.EventLists.+send_each.Given as goal

abbrev pub decreases-send_each : goal.decreases-send_each
decreases-send_each l = length l.kinds.now
