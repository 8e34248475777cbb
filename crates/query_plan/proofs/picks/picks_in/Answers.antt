use Rattle.std.proofs.Common.{◌<◌, length, get_or, map, refl}
use Rattle.model.proofs.lists.Each.{each-at}
use Rattle.query_plan.specs.Picks.{pick_seen}
use Rattle.query_plan.proofs.Candidates.{one_picked, all_picked}
use Rattle.query_plan.proofs.picks.picks_in.Goals as goal

pub archetype-view-requires : goal.archetype-view-requires
archetype-view-requires c =
    each-at (λ n. n < length c.args.world.now.layout) c.args.archetypes.now c.loop-archetype.archetype-index 0 c.loop-archetype-test.true c.requires

-- one archetype more is picked of
pub loop-archetype-preserved : goal.loop-archetype-preserved
loop-archetype-preserved c =
    let n = get_or c.args.archetypes.now c.loop-archetype.archetype-index 0 in
    one_picked c.args.query.now c.args.world.now.layout c.args.archetypes.now c.loop-archetype.archetype-index n 0 _ (map pick_seen c.loop-archetype.picks.items) (map pick_seen c.pick_of.new.picks.items)
    c.loop-archetype-test.true refl c.archetype-view.ensures.kinds c.loop-archetype.invariant c.in_ok-pick_of.ensures

pub returns : goal.returns
returns c =
    all_picked c.args.query.now c.args.world.now.layout c.args.archetypes.now c.loop-archetype.archetype-index (map pick_seen c.loop-archetype.picks.items) c.loop-archetype-test.false c.loop-archetype.invariant
