use Rattle.system_set.specs.Coverage.{AreNumbersTo}
use Rattle.system_set.proofs.coverage.members_in.Given as goal

abbrev pub invariant-loop-system : goal.invariant-loop-system
invariant-loop-system l = AreNumbersTo l.sets l.rows l.item l.system l.numbers.items
