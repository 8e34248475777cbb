use Rattle.std.proofs.Common.{ℕ, ◌<◌}
use Rattle.ambiguity_report.specs.declared.races.Racer.TheVariants.{Condition}
use Rattle.ambiguity_report.specs.Races.{IsRace}
use Rattle.ambiguity_report.proofs.report.has_race_with_condition.Given as goal

abbrev pub invariant-loop-condition : goal.invariant-loop-condition
invariant-loop-condition l = (k : ℕ) → k < l.condition → IsRace l.built (Condition k) l.system → ⊥
