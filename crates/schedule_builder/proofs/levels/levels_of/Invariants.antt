use Rattle.schedule_builder.proofs.LevelSteps.{AreLevelsAlong}
use Rattle.schedule_builder.proofs.levels.levels_of.Given as goal

abbrev pub invariant-loop-number : goal.invariant-loop-number
invariant-loop-number l = AreLevelsAlong l.systems l.plain l.order l.levels.items l.number-index
