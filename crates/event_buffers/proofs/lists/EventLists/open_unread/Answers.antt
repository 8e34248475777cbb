use Rattle.std.proofs.Common.{◌++◌, get_or, ap, ◌∙◌}
use Rattle.kinds.specs.Res.{event_number}
use Rattle.model.specs.state.Events.{queue_of, unread}
use Rattle.kinds.specs.declared.res.Event.TheVariants.{Hit}
use Rattle.event_buffers.specs.Lists.{ListValue, lists_of}
use Rattle.event_buffers.proofs.ListsOfEvents.{unread-more}
use Rattle.event_buffers.proofs.lists.EventLists.open_unread.Goals as goal

pub loop-place-preserved : goal.loop-place-preserved
loop-place-preserved c =
    let i = c.loop-place.place in
    let kinds = c.args.kinds.now in
    let number = event_number (get_or kinds i Hit) in
    let events = c.args.events.now in
    ap lists_of c.in_ok-push.ensures.items
    ∙ unread-more events c.args.cursors.now c.self.inside.lists.items c.add_unread.new.self kinds i Hit c.loop-place-test.true
    (c.self.view_is ∙ (c.take_list-list.ensures.lists ∙ c.loop-place.invariant))
    (c.in_ok-add_unread.ensures
    ∙ ap (λ (l : ListValue). let x : ListValue = record { kind = l.kind; values = l.values ++ unread (queue_of events l.kind) c.cursor_at.result } in x) c.take_list-list.ensures.list
    ∙ ap (λ n. let x : ListValue = record { kind = number; values = unread (queue_of events number) n } in x) c.cursor_at.ensures)
