use Rattle.lints.specs.Collected.{Adds, Among}
use Rattle.lints.specs.Constants.{IsOfCondition}
use Rattle.lints.proofs.constants.add_of_conditions.Given as goal

-- what is found of the numbers so far is added
abbrev pub invariant-loop-condition : goal.invariant-loop-condition
invariant-loop-condition l = Adds (Among l.condition (IsOfCondition l.known.built.now l.known.values.now l.known.present.now)) l.initial.found.items l.found.items
