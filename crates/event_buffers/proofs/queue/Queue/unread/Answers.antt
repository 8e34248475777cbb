use Rattle.std.proofs.Common.{◌+◌, ◌++◌, length, sym, ap, ap₂, ◌∙◌}
use Rattle.model.specs.state.Events.{unread}
use Rattle.event_buffers.specs.Queue.{values_from}
use Rattle.event_buffers.proofs.Numbered.{unread-both}
use Rattle.event_buffers.proofs.queue.Queue.unread.Goals as goal

pub returns : goal.returns
returns c =
    let first = c.self.inside.first in
    ap₂ ◌++◌ (c.from.ensures ∙ ap (λ xs. values_from first xs c.args.cursor) c.as_slice.ensures.value)
    (c.from-2.ensures ∙ ap (λ xs. values_from (first + c.len.result) xs c.args.cursor) c.as_slice-2.ensures.value)
    ∙ unread-both first (first + c.len.result) c.args.cursor c.self.inside.older.items c.self.inside.newer.items (ap (λ n. first + n) (c.len.ensures ∙ (sym c.as_slice.ensures.len ∙ ap length c.as_slice.ensures.value)))
    ∙ ap (λ q. unread q c.args.cursor) c.self.view_is
