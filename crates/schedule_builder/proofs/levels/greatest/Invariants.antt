use Rattle.std.proofs.Common.{take}
use Rattle.schedule_builder.specs.Levels.{IsGreatest}
use Rattle.schedule_builder.proofs.levels.greatest.Given as goal

abbrev pub invariant-loop-system : goal.invariant-loop-system
invariant-loop-system l = IsGreatest l.start (take l.system-index l.systems) l.levels l.added l.level
