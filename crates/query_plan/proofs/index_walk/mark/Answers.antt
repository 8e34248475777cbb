use Rattle.std.proofs.Common.{◌<◌, length, get_or, refl, sym, ap, ◌∙◌}
use Rattle.model.proofs.lists.Each.{each-at}
use Rattle.model.specs.Lists.{has}
use Rattle.model.specs.access.Query.{matches}
use Rattle.query_plan.proofs.IndexWalks.{mark_passed, mark_set}
use Rattle.query_plan.proofs.index_walk.mark.Goals as goal

-- one that the query doesn't match is passed over
pub loop-archetype-preserved-then-not-matches_kinds : goal.loop-archetype-preserved-then-not-matches_kinds
loop-archetype-preserved-then-not-matches_kinds c =
    let n = get_or c.args.archetypes.now c.loop-archetype.archetype-index 0 in
    mark_passed c.args.query.now c.args.world.now.layout c.args.archetypes.now c.loop-archetype.archetype-index n c.loop-archetype.marks.items c.loop-archetype-test.true refl c.loop-archetype.invariant
    (ap (λ kinds. matches c.args.query.now (λ kind. has kind kinds)) (sym c.archetype-view.ensures.kinds) ∙ sym c.if-not-matches_kinds.ensures)

-- one that it matches is marked
pub loop-archetype-preserved : goal.loop-archetype-preserved
loop-archetype-preserved c =
    let n = get_or c.args.archetypes.now c.loop-archetype.archetype-index 0 in
    mark_set c.args.query.now c.args.world.now.layout c.args.archetypes.now c.loop-archetype.archetype-index n c.loop-archetype.marks.items c.loop-archetype-test.true refl c.loop-archetype.invariant
    (each-at (λ m. m < length c.args.world.now.layout) c.args.archetypes.now c.loop-archetype.archetype-index 0 c.loop-archetype-test.true c.requires)
    (ap (λ kinds. matches c.args.query.now (λ kind. has kind kinds)) (sym c.archetype-view.ensures.kinds) ∙ sym c.if-not-matches_kinds.ensures)
