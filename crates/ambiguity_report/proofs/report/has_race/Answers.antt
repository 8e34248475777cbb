use Rattle.std.proofs.Common.{refl}
use Rattle.ambiguity_report.specs.declared.races.Racer.TheVariants.{System}
use Rattle.ambiguity_report.proofs.Settling.{race_of_either}
use Rattle.ambiguity_report.proofs.report.has_race.Goals as goal

pub returns-then-has_race_below : goal.returns-then-has_race_below
returns-then-has_race_below c = ((λ e. let found = c.if-has_race_below.ensures.0 refl in (System found.0, found.1)), (λ race. refl))

pub returns : goal.returns
returns c = race_of_either c.args.built.now c.args.system c.has_race_below.result c.has_race_with_condition.result c.if-has_race_below.false c.has_race_below.ensures c.has_race_with_condition.ensures
