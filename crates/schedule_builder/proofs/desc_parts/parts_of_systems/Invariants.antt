use Rattle.std.proofs.Common.{◌≡◌, ◌++◌, map, flat_map}
use Rattle.std.specs.Vec.Iter.{into_iter_items}
use Rattle.schedule_builder.proofs.desc_parts.parts_of_systems.Given as goal

abbrev pub invariant-loop-system : goal.invariant-loop-system
invariant-loop-system l = record {
  whole : l.yielded ++ into_iter_items l.system-iterator ≡ l.fn.systems.items;
  touched : l.params.items ≡ map (λ s. s.params) l.yielded;
  moved : l.moved.items ≡ l.fn.conditions.items ++ flat_map (λ s. s.item.conditions) l.yielded;
}
