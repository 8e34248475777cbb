use Rattle.std.proofs.Common.{◌≤◌, ◌-◌, length, nat_le, ap, ◌∙◌, subst}
use Rattle.model.specs.state.State.{last_tick}
use Rattle.event_buffers.proofs.Numbered.{numbered-is}
use Rattle.event_buffers.proofs.queue.Queue.can_send.Goals as goal

pub returns : goal.returns
returns c =
    ap (λ n. nat_le (length c.args.values.now) (last_tick - n)) c.next.ensures.value
    ∙ numbered-is c.args.values.now c.args.self.now (subst (λ n. n ≤ last_tick) c.next.ensures.value c.next.ensures.most)
