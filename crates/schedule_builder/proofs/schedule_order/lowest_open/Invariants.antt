use Rattle.schedule_builder.specs.ScheduleOrder.{TellsLowestAmong}
use Rattle.schedule_builder.proofs.schedule_order.lowest_open.Given as goal

abbrev pub invariant-loop-number : goal.invariant-loop-number
invariant-loop-number l = TellsLowestAmong l.systems l.placed l.number l.lowest
