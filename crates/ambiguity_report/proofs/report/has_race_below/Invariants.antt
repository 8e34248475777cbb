use Rattle.std.proofs.Common.{ℕ, ◌<◌}
use Rattle.ambiguity_report.specs.declared.races.Racer.TheVariants.{System}
use Rattle.ambiguity_report.specs.Races.{IsRace}
use Rattle.ambiguity_report.proofs.report.has_race_below.Given as goal

abbrev pub invariant-loop-first : goal.invariant-loop-first
invariant-loop-first l = (m : ℕ) → m < l.first → IsRace l.built (System m) l.system → ⊥
