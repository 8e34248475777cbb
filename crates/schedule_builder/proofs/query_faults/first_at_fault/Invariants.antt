use Rattle.schedule_builder.specs.Queries.{AreGoodBelow}
use Rattle.schedule_builder.proofs.query_faults.first_at_fault.Given as goal

abbrev pub invariant-loop-number : goal.invariant-loop-number
invariant-loop-number l = AreGoodBelow l.queries l.number
