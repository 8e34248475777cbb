use Rattle.schedule_builder.specs.Queries.{AreGoodSystemsBelow}
use Rattle.schedule_builder.proofs.query_faults.first_bad.Given as goal

abbrev pub invariant-loop-system : goal.invariant-loop-system
invariant-loop-system l = AreGoodSystemsBelow l.desc l.system
