use Rattle.std.proofs.Common.{◌≡◌}
use Rattle.job_board.specs.Ends.{hand_slots}
use Rattle.worker_pool.proofs.standing.take.Given as goal

abbrev pub invariant-loop : goal.invariant-loop
invariant-loop g l = hand_slots l.hand ≡ hand_slots l.fn.hand
