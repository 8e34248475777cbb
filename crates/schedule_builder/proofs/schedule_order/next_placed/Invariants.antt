use Rattle.std.proofs.Common.{◌≡◌, ℕ, ◌<◌, false}
use Rattle.schedule_builder.specs.ScheduleOrder.{can_place}
use Rattle.schedule_builder.proofs.schedule_order.next_placed.Given as goal

abbrev pub invariant-loop-number : goal.invariant-loop-number
invariant-loop-number l = (k : ℕ) → k < l.number → can_place l.systems l.placed l.lowest k ≡ false
