use Rattle.lints.specs.Lints.{IsOfQuery}
use Rattle.lints.proofs.Growing.{adds_both, adds_tested}
use Rattle.lints.proofs.queries.add_of_query.Goals as goal

pub returns : goal.returns
unfolding IsOfQuery
returns c = adds_both _ _ _ _ _ (adds_tested _ _ _ _ _ c.is_unread_entity-is_unread.ensures c.in_ok-add_where.ensures) c.in_ok-add_of_kinds.ensures
