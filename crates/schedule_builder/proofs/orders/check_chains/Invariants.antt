use Rattle.std.proofs.Common.{flat_map, take, length}
use Rattle.model.specs.declarations.Walks.{EachIs}
use Rattle.model.specs.declarations.Declarations.{items_of, names_along}
use Rattle.model.specs.declarations.Refusals.{IsKnown}
use Rattle.schedule_builder.proofs.orders.check_chains.Given as goal

abbrev pub invariant-loop-chain : goal.invariant-loop-chain
invariant-loop-chain l = EachIs (IsKnown l.desc) (flat_map (names_along (length (items_of l.desc))) (take l.chain-index l.chains))
