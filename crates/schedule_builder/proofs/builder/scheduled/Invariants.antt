use Rattle.std.proofs.Common.{◌≡◌, ◌++◌, [], map}
use Rattle.std.specs.Vec.Iter.{into_iter_items}
use Rattle.schedule_builder.specs.ScheduleOrder.{system_with, AreScheduled}
use Rattle.schedule_builder.proofs.builder.scheduled.Given as goal

abbrev pub invariant-loop-touched : goal.invariant-loop-touched
invariant-loop-touched l = record {
  whole : l.yielded ++ into_iter_items l.touched-iterator ≡ l.fn.params.items;
  built : AreScheduled l.edges [] (map system_with l.yielded) l.built.items;
}
