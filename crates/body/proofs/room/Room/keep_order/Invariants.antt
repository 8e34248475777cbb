use Rattle.std.proofs.Common.{◌+◌, ◌-◌, length}
use Rattle.body.proofs.room.Room.keep_order.Given as goal

abbrev pub decreases-loop-alloc : goal.decreases-loop-alloc
decreases-loop-alloc l = l.system + 1 - length l.self.orders.items
