use Rattle.std.proofs.Common.{◌≡◌, ◌++◌}
use Rattle.std.specs.Vec.Iter.{into_iter_items}
use Rattle.schedule_builder.specs.Levels.{AreLevelledBy}
use Rattle.schedule_builder.proofs.builder.levelled.Given as goal

abbrev pub invariant-loop-system : goal.invariant-loop-system
invariant-loop-system l = record {
  whole : l.yielded ++ into_iter_items l.system-iterator ≡ l.fn.systems.items;
  built : AreLevelledBy l.levels l.yielded l.built.items;
}
