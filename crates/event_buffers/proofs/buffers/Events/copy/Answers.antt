use Rattle.std.proofs.Common.{◌∙◌}
use Rattle.event_buffers.proofs.Queues.{copied_four}
use Rattle.event_buffers.proofs.buffers.Events.copy.Goals as goal

pub returns : goal.returns
returns c =
    copied_four c.self.inside.queues c.index-self-0.result c.index-self-1.result c.index-self-2.result c.index-self-3.result c.in_ok-hit.hit c.in_ok-heal.heal c.in_ok-spark.spark c.in_ok-done.done
    c.self.invariant c.in_ok-hit.ensures c.in_ok-heal.ensures c.in_ok-spark.ensures c.in_ok-done.ensures
    ∙ c.self.view_is
