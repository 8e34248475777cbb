use Rattle.std.proofs.Common.{sym, ◌∙◌}
use Rattle.query_plan.proofs.IndexWalks.{bare_found}
use Rattle.query_plan.proofs.index_walk.bare_row_at.Goals as goal

pub returns-clause-some : goal.returns-clause-some
returns-clause-some c =
    bare_found c.args._query.now c.args.world.now.state.slots c.args.world.now.layout c.args.index c.requires.bare c.requires.none c.in_ok-entity.entity c.args.count c.requires.count
    (sym c.bare_at.ensures ∙ c.in_ok-entity.was)
