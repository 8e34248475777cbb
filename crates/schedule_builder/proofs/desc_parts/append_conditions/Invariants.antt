use Rattle.std.proofs.Common.{◌≡◌, ◌++◌}
use Rattle.std.specs.Vec.Iter.{into_iter_items}
use Rattle.schedule_builder.proofs.desc_parts.append_conditions.Given as goal

abbrev pub invariant-loop-condition : goal.invariant-loop-condition
invariant-loop-condition l = record {
  whole : l.yielded ++ into_iter_items l.condition-iterator ≡ l.fn.more.items;
  appended : l.conditions.items ≡ l.fn.conditions.items ++ l.yielded;
}
