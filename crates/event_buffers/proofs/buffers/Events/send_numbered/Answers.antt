use Rattle.std.proofs.Common.{set, ap, ap₂, ◌∙◌}
use Rattle.model.specs.state.Events.{send_all}
use Rattle.model.specs.Lists.{update_at}
use Rattle.event_buffers.proofs.Queues.{update_at-set}
use Rattle.event_buffers.proofs.buffers.Events.send_numbered.Goals as goal
use Rattle.model.proofs.lists.Results.{ok_as}

pub returns-clause-ok : goal.returns-clause-ok
returns-clause-ok c = ok_as _ _ c.send_numbered.result
    (λ sent. ap (set c.self.inside.queues c.number.result) sent
    ∙ update_at-set (send_all c.args.values.now) _ c.self.inside.queues c.number.result
    ∙ ap₂ (λ n queues. update_at n (send_all c.args.values.now) queues) c.number.ensures c.self.view_is)
    c.send_numbered.ensures.ok
