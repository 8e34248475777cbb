use Rattle.std.proofs.Common.{ℕ, ◌<◌}
use Rattle.ambiguity_report.specs.declared.races.Racer.{Racer}
use Rattle.ambiguity_report.specs.Races.{IsRace}
use Rattle.ambiguity_report.proofs.report.has_races.Given as goal

abbrev pub invariant-loop-system : goal.invariant-loop-system
invariant-loop-system l = (n : ℕ) (r : Racer) → n < l.system → IsRace l.built r n → ⊥
