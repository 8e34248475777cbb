use Rattle.std.proofs.Common.{map}
use Rattle.schedule_builder.specs.Queries.{AreGoodBelow}
use Rattle.schedule_builder.proofs.condition_faults.first_at_fault.Given as goal

abbrev pub invariant-loop-number : goal.invariant-loop-number
invariant-loop-number l = AreGoodBelow (map (λ q. q.now) l.queries) l.number
