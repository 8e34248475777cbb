use Rattle.std.proofs.Common.{w64, set, refl, ap, ap₂, ◌∙◌}
use Rattle.std.proofs.lemmas.Int.{to_z-of_z}
use Rattle.model.specs.state.Events.{send}
use Rattle.model.specs.Lists.{update_at}
use Rattle.event_buffers.proofs.Queues.{update_at-set}
use Rattle.event_buffers.proofs.buffers.Events.send.Goals as goal
use Rattle.model.proofs.lists.Results.{ok_as}

pub returns-clause-ok : goal.returns-clause-ok
returns-clause-ok c = ok_as _ _ c.send.result
    (λ sent. ap (set c.self.inside.queues c.number.result) (sent ∙ ap₂ send (to_z-of_z w64 c.args.value c.ranges.value) refl)
    ∙ update_at-set (send c.args.value) _ c.self.inside.queues c.number.result
    ∙ ap₂ (λ n queues. update_at n (send c.args.value) queues) c.number.ensures c.self.view_is)
    c.send.ensures.ok
