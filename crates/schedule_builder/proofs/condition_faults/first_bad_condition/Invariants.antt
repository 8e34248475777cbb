use Rattle.std.proofs.Common.{map}
use Rattle.schedule_builder.specs.Asked.{AreGoodConditionsBelow}
use Rattle.schedule_builder.proofs.condition_faults.first_bad_condition.Given as goal

abbrev pub invariant-loop-number : goal.invariant-loop-number
invariant-loop-number l = AreGoodConditionsBelow (map (λ c. c.now) l.conditions) l.number
