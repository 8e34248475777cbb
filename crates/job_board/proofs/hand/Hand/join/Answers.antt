use Rattle.std.proofs.Common.{rules}
use Rattle.job_board.proofs.Comes.{enters}
use Rattle.job_board.proofs.hand.Hand.join.Goals as goal

pub load_new_seat-seat-requires : goal.load_new_seat-seat-requires
load_new_seat-seat-requires g c = (search rules, enters g.T.Task.answers _ _ (search rules))
