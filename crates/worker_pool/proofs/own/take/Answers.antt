use Rattle.job_board.specs.Ends.{hand_view}
use Rattle.worker_pool.proofs.Tickets.{taken_one}
use Rattle.worker_pool.proofs.own.take.Goals as goal

pub returns : goal.returns
returns g c = taken_one _ (hand_view c.try_take.new.self) _ c.try_take.result c.try_take.ensures.taken
