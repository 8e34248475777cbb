use Rattle.std.proofs.Common.{◌≡◌, ◌++◌, map, take}
use Rattle.schedule_builder.proofs.condition_faults.push_conditions.Given as goal

abbrev pub invariant-loop-condition : goal.invariant-loop-condition
invariant-loop-condition l = map (λ c. c.now) l.asked.items ≡ map (λ c. c.now) l.fn.asked.items ++ take l.condition-index l.conditions
