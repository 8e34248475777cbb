use Rattle.lints.specs.Lints.{IsOfStart}
use Rattle.lints.proofs.Growing.{adds_tested}
use Rattle.lints.proofs.file.add_of_start.Goals as goal

pub returns : goal.returns
unfolding IsOfStart
returns c = rw (← c.res_at-res.ensures, ← c.is_zero.ensures) (adds_tested _ _ _ _ _ c.is_never_written-is.ensures c.in_ok-add_where.ensures)
