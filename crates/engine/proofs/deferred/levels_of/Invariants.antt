use Rattle.std.proofs.Common.{◌≡◌, length, take}
use Rattle.model.specs.steps.Schedule.{level_of}
use Rattle.engine.proofs.LevelSystems.{AreLevelsOf}
use Rattle.engine.proofs.deferred.levels_of.Given as goal

abbrev pub invariant-loop-system : goal.invariant-loop-system
invariant-loop-system l = record {
  count : length l.levels.items ≡ l.built.syncs;
  each : AreLevelsOf (level_of l.built) (take l.system-index l.built.order) l.levels.items;
}
