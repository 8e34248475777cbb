use Rattle.std.proofs.Common.{◌≡◌, ◌++◌, flat_map}
use Rattle.std.specs.Vec.Iter.{into_iter_items}
use Rattle.schedule_builder.proofs.desc_parts.conditions_of_sets.Given as goal

abbrev pub invariant-loop-set : goal.invariant-loop-set
invariant-loop-set l = record {
  whole : l.yielded ++ into_iter_items l.set-iterator ≡ l.fn.sets.items;
  moved : l.conditions.items ≡ flat_map (λ s. s.conditions) l.yielded;
}
