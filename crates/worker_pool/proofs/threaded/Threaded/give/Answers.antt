-- What goes to the thread, and what comes back from it, may cross threads.
use denote.Param.Send.{sendable}
use Rattle.std.proofs.Crossing.{crosses}
use Rattle.worker_pool.proofs.Sent.{start_send, done_send, bell_send}
use Rattle.worker_pool.proofs.threaded.Threaded.give.Goals as goal

pub spawn_with-requires-send-F : goal.spawn_with-requires-send-F
spawn_with-requires-send-F g c κs within = search (sendable, crosses, bell_send, start_send) depth 400 fits 50000

pub spawn_with-requires-send-T : goal.spawn_with-requires-send-T
spawn_with-requires-send-T g c κs within = search (sendable, crosses, done_send) depth 400 fits 50000
