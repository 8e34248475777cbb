use Rattle.std.proofs.Common.{◌≡◌, map, flat_map, take}
use Rattle.model.specs.declarations.Declarations.{items_of}
use Rattle.schedule_builder.proofs.condition_faults.conditions_of.Given as goal

abbrev pub invariant-loop-number : goal.invariant-loop-number
invariant-loop-number l = map (λ c. c.now) l.asked.items ≡ flat_map (λ i. i.conditions) (take l.number (items_of l.desc))
