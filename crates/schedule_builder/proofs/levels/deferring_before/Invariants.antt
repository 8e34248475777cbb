use Rattle.std.proofs.Common.{◌≡◌, take}
use Rattle.schedule_builder.specs.Levels.{deferring_before}
use Rattle.schedule_builder.proofs.levels.deferring_before.Given as goal

abbrev pub invariant-loop-order : goal.invariant-loop-order
invariant-loop-order l = l.found.items ≡ deferring_before l.systems (take l.order-index l.plain) l.number
