use Rattle.std.proofs.Common.{flat_map, take, length}
use Rattle.model.specs.declarations.Walks.{EachIs}
use Rattle.model.specs.declarations.Declarations.{items_of, names_in}
use Rattle.model.specs.declarations.Refusals.{IsKnown}
use Rattle.schedule_builder.proofs.orders.check_items.Given as goal

abbrev pub invariant-loop-number : goal.invariant-loop-number
invariant-loop-number l = EachIs (IsKnown l.desc) (flat_map (names_in (length l.desc.sets) (length (items_of l.desc))) (take l.number (items_of l.desc)))
