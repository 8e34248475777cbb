-- A start and what comes of it may cross threads.
use denote.Param.Send.{sendable}
use Rattle.std.proofs.Crossing.{crosses}
use Rattle.worker_pool.proofs.Sent.{start_send, done_send}
use Rattle.worker_pool.proofs.standing.Standing.find_room.Goals as goal

pub start_worker-requires-send-T-Job : goal.start_worker-requires-send-T-Job
start_worker-requires-send-T-Job g c κs within = search (sendable, crosses, start_send) depth 400 fits 50000

pub start_worker-requires-send-T-Outcome : goal.start_worker-requires-send-T-Outcome
start_worker-requires-send-T-Outcome g c κs within = search (sendable, crosses, done_send) depth 400 fits 50000
