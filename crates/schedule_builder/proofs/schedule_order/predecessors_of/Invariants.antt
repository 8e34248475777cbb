use Rattle.std.proofs.Common.{◌≡◌, take}
use Rattle.schedule_builder.specs.ScheduleOrder.{items_before}
use Rattle.schedule_builder.proofs.schedule_order.predecessors_of.Given as goal

abbrev pub invariant-loop-order : goal.invariant-loop-order
invariant-loop-order l = l.items.items ≡ items_before (take l.order-index l.orders) l.item
