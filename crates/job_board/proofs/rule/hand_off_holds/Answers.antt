use Rattle.std.proofs.Common.{ℕ, sym, subst}
use Rattle.job_board.specs.Board.{ClosingFits}
use Rattle.job_board.proofs.rule.hand_off_holds.Goals as goal

pub returns-clause-closing : goal.returns-clause-closing
returns-clause-closing g c = λ s h. subst (λ (z : ℕ). ClosingFits s.views s.words z) (sym h.1.deep) h.1.closing
