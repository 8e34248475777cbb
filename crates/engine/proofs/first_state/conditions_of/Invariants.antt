use Rattle.std.proofs.Common.{◌≡◌, map, take}
use Rattle.model.specs.access.Condition.{access_of_condition}
use Rattle.model.specs.state.Loaded.{first_memory}
use Rattle.model.specs.steps.Schedule.{ScheduledCondition}
use Rattle.engine.proofs.first_state.conditions_of.Given as goal

abbrev pub invariant-loop-condition : goal.invariant-loop-condition
invariant-loop-condition l = l.memories.items ≡ map (λ (x : ScheduledCondition). first_memory (access_of_condition x.condition).reads) (take l.condition-index l.condition-items)
