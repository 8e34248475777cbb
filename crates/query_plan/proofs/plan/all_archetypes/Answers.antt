use Rattle.std.proofs.Common.{◌<◌, ◌≤◌, length, subst}
use Rattle.query_plan.proofs.Candidates.{all_more, all_done}
use Rattle.query_plan.proofs.plan.all_archetypes.Goals as goal

pub loop-archetype-preserved : goal.loop-archetype-preserved
loop-archetype-preserved c =
    let layout = c.args.world.now.layout in
    let within : c.loop-archetype.archetype < length layout = subst (λ n. c.loop-archetype.archetype < n) c.archetype_count-count.ensures c.loop-archetype-test.true in
    all_more layout c.loop-archetype.archetype c.loop-archetype.archetypes.items c.push.new.self.items within c.in_ok-push.ensures.items c.loop-archetype.invariant

pub returns : goal.returns
returns c =
    let layout = c.args.world.now.layout in
    all_done layout c.loop-archetype.archetype c.loop-archetype.archetypes.items (subst (λ n. n ≤ c.loop-archetype.archetype) c.archetype_count-count.ensures c.loop-archetype-test.false) c.loop-archetype.invariant
