use Rattle.std.proofs.Common.{arith}
use Rattle.cycle_search.proofs.Walks.{has_at}
use Rattle.cycle_search.proofs.cycle.place_on.Goals as goal

pub unreachable-requires : goal.unreachable-requires
unreachable-requires c = let r = has_at c.args.item c.args.path.now c.requires in c.loop-place.invariant r.0 (omega (arith, r.1)) r.2
