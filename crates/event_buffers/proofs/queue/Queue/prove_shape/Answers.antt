use Rattle.std.proofs.Common.{subst}
use Rattle.model.specs.state.Shape.{IsQueue}
use Rattle.event_buffers.proofs.Numbered.{queue-shape}
use Rattle.event_buffers.proofs.queue.Queue.prove_shape.Goals as goal

pub returns : goal.returns
returns c = subst IsQueue c.self.view_is (queue-shape c.self.inside.first c.self.inside.older.items c.self.inside.newer.items c.self.invariant)
