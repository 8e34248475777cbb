use Rattle.lints.proofs.Growing.{adds_both, adds_tested}
use Rattle.lints.proofs.file.add_of_event.Goals as goal

pub returns : goal.returns
returns c = adds_both _ _ _ _ _ (adds_tested _ _ _ _ _ c.is_unread-is_unread.ensures c.in_ok-add_where.ensures) (adds_tested _ _ _ _ _ c.is_unwritten-is_unwritten.ensures c.in_ok-add_where-2.ensures)
