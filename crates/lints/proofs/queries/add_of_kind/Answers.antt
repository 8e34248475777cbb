use Rattle.lints.proofs.Growing.{adds_both, adds_tested}
use Rattle.lints.proofs.queries.add_of_kind.Goals as goal

pub returns : goal.returns
returns c = adds_both _ _ _ _ _ (adds_tested _ _ _ _ _ c.is_unused_mut-is_unused.ensures c.in_ok-add_where.ensures)
    (adds_both _ _ _ _ _ (adds_tested _ _ _ _ _ c.is_unread_term-is_unread.ensures c.in_ok-add_where-2.ensures) (adds_tested _ _ _ _ _ c.is_no_match-is_unmatched.ensures c.in_ok-add_where-3.ensures))
