use Rattle.std.proofs.Common.{◌≤◌, take}
use Rattle.schedule_builder.specs.Levels.{AreSyncs}
use Rattle.schedule_builder.proofs.levels.syncs_of.Given as goal

abbrev pub invariant-loop-level : goal.invariant-loop-level
invariant-loop-level l = record {
  syncs : AreSyncs (take l.level-index l.levels) l.syncs;
  few : l.syncs ≤ 257;
}
