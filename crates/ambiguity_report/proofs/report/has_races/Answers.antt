use Rattle.std.proofs.Common.{below_more}
use Rattle.std.proofs.lemmas.Bool.{both_ways}
use Rattle.ambiguity_report.specs.declared.races.Racer.{Racer}
use Rattle.ambiguity_report.specs.Races.{IsRace}
use Rattle.ambiguity_report.proofs.report.has_races.Goals as goal

pub loop-system-preserved : goal.loop-system-preserved
loop-system-preserved c = λ n r low race. below_more (λ m. (q : Racer) → IsRace c.args.built.now q m → ⊥) c.loop-system.system (λ m l q. c.loop-system.invariant m q l)
    (λ q found. both_ways c.has_race.result c.if-has_race.false (c.has_race.ensures.1 (q, found))) n low r race
