use Rattle.std.proofs.Common.{length}
use Rattle.event_buffers.proofs.lists.EventLists.put_each_away.Given as goal

abbrev pub decreases-loop-list : goal.decreases-loop-list
decreases-loop-list l = length l.self-inside.lists.items
