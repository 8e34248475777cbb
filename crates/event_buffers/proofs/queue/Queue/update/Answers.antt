use Rattle.std.proofs.Common.{◌+◌, ap, ap₂, ◌∙◌, rules}
use Rattle.model.specs.state.Events.{updated_queue}
use Rattle.event_buffers.specs.Queue.{queue_of_parts}
use Rattle.event_buffers.proofs.Numbered.{updated-parts}
use Rattle.event_buffers.proofs.queue.Queue.update.Goals as goal

pub returns : goal.returns
returns c =
    let first = c.self.inside.first in
    ap₂ (λ xs ys. queue_of_parts (first + c.len.result) xs ys) (ap (λ v. v.items) c.swap.ensures.x_after) (ap (λ v. v.items) c.swap.ensures.y_after ∙ c.clear.ensures.items)
    ∙ updated-parts first (first + c.len.result) c.self.inside.older.items c.self.inside.newer.items (ap (λ n. first + n) (c.len.ensures ∙ search rules))
    ∙ ap updated_queue c.self.view_is
