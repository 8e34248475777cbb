use Rattle.std.proofs.Common.{◌≡◌, ◌++◌}
use Rattle.std.specs.Vec.Iter.{into_iter_items}
use Rattle.schedule_builder.specs.Asked.{AreScheduledConditions}
use Rattle.schedule_builder.proofs.condition_faults.scheduled_conditions.Given as goal

abbrev pub invariant-loop-cond : goal.invariant-loop-cond
invariant-loop-cond l = record {
  whole : l.yielded ++ into_iter_items l.cond-iterator ≡ l.fn.asked.items;
  made : AreScheduledConditions l.yielded l.coverage l.conditions.items;
}
