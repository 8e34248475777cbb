use Rattle.std.proofs.Common.{◌≡◌, true, is_ok, sym, subst}
use Rattle.model.specs.state.Events.{can_send}
use Rattle.model.specs.state.State.{EventQueue}
use Rattle.event_buffers.specs.Queue.{queue_of_parts}
use Rattle.event_buffers.proofs.Numbered.{numbered-room, sent-room, sent-all}
use Rattle.event_buffers.proofs.queue.Queue.send_numbered.Goals as goal

pub invariant_of-self : goal.invariant_of-self
invariant_of-self c =
    let inside = c.self.inside in
    let values = c.args.values.now in
    let queue = queue_of_parts inside.first inside.older.items inside.newer.items in
    let can = subst (λ (q : EventQueue). can_send values q ≡ true) (sym c.self.view_is) c.requires in
    let most = c.self.invariant in
    sent-room (is_ok c.extend_from_slice.result) inside.first inside.older.items inside.newer.items values _ c.extend_from_slice.ensures.items (numbered-room values queue most can)

pub returns-clause-ok : goal.returns-clause-ok
returns-clause-ok c =
    let inside = c.self.inside in
    sent-all c.extend_from_slice.result inside.first inside.older.items inside.newer.items c.args.values.now _ c.args.self.now c.extend_from_slice.ensures.items c.self.view_is
