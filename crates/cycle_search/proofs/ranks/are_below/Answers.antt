use Rattle.cycle_search.proofs.Falls.{below_all}
use Rattle.cycle_search.proofs.ranks.are_below.Goals as goal

pub returns : goal.returns
returns c = below_all c.args.ranks.now c.args.count c.loop-height.height-index c.loop-height-test.false c.loop-height.invariant
