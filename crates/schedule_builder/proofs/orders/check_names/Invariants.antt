use Rattle.std.proofs.Common.{map, take}
use Rattle.model.specs.declarations.Walks.{EachIs}
use Rattle.model.specs.declarations.Refusals.{IsKnown}
use Rattle.schedule_builder.proofs.Lookups.{with_bound}
use Rattle.schedule_builder.proofs.orders.check_names.Given as goal

abbrev pub invariant-loop-name : goal.invariant-loop-name
invariant-loop-name l = EachIs (IsKnown l.desc) (map (with_bound l.bound) (take l.name-index l.names))
