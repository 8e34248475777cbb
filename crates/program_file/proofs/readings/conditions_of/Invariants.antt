use Rattle.std.proofs.Common.{map, take}
use Rattle.run_condition.specs.Grammar.{IsCondition}
use Rattle.program_file.specs.Readings.{AreSpelled}
use Rattle.program_file.proofs.readings.conditions_of.Given as goal

-- the texts so far are read
abbrev pub invariant-loop-text : goal.invariant-loop-text
invariant-loop-text l = AreSpelled IsCondition l.conditions.items (map (λ text. text.now) (take l.text-index l.texts))
