use Rattle.std.proofs.Common.{map}
use Rattle.schedule_builder.specs.Asked.{AreReadingBelow}
use Rattle.schedule_builder.proofs.condition_faults.first_writing.Given as goal

abbrev pub invariant-loop-number : goal.invariant-loop-number
invariant-loop-number l = AreReadingBelow (map (λ c. c.now) l.conditions) l.number
