use Rattle.std.proofs.Common.{◌≡◌, ◌≤◌, ◌+◌, ℕ, length, get_or, false, not}
use Rattle.std.specs.List.{count_by}
use Rattle.model.specs.Lists.{has}
use Rattle.schedule_builder.specs.ScheduleOrder.{IsSequence}
use Rattle.schedule_builder.proofs.schedule_order.order_of.Given as goal

abbrev pub invariant-loop-lowest : goal.invariant-loop-lowest
invariant-loop-lowest l = record {
  long : length l.placed.items ≡ length l.systems;
  placed : (n : ℕ) → get_or l.placed.items n false ≡ has n l.order.items;
  sequence : IsSequence l.systems l.order.items;
  room : length l.order.items + count_by not l.placed.items ≤ length l.systems;
}

abbrev pub decreases-loop-lowest : goal.decreases-loop-lowest
decreases-loop-lowest l = count_by not l.placed.items
