use Rattle.std.proofs.Common.{◌-◌, ◌++◌, ℕ, List, length, flat_map, sym, ap, ◌∙◌, append_assoc, arith}
use Rattle.std.specs.Prelude.{codes}
use Rattle.event_buffers.specs.Queue.{numbered}
use Rattle.state_lines.specs.Looks.{event_line}
use Rattle.state_lines.specs.WorldText.{count_line}
use Rattle.kinds.specs.Res.{event_number}
use Rattle.model.specs.state.Events.{queue_of}
use Rattle.state_lines.proofs.KeptEvents.{kept_by_values, queue_at}
use Rattle.state_lines.proofs.events.lines_of_events.Goals as goal

pub overflow_sub-newer : goal.overflow_sub-newer
overflow_sub-newer c =
    let kept = kept_by_values c.args.from (queue_of c.args.events.now (event_number c.args.kind)) c.unread-unread.result.older.now c.unread-unread.result.newer.now (queue_at c.args.events.now (event_number c.args.kind) c.prove_shape.ensures) c.unread-unread.ensures in
    omega (arith, kept.0, c.next-next.ensures.value)

pub overflow_sub-older : goal.overflow_sub-older
overflow_sub-older c =
    let kept = kept_by_values c.args.from (queue_of c.args.events.now (event_number c.args.kind)) c.unread-unread.result.older.now c.unread-unread.result.newer.now (queue_at c.args.events.now (event_number c.args.kind) c.prove_shape.ensures) c.unread-unread.ensures in
    omega (arith, kept.0, c.next-next.ensures.value)

pub returns : goal.returns
returns c =
    let queue = queue_of c.args.events.now (event_number c.args.kind) in
    let older = c.unread-unread.result.older.now in
    let newer = c.unread-unread.result.newer.now in
    let next = c.next-next.result in
    let first : List ℕ = flat_map event_line (numbered (next - length newer - length older) older) in
    let then : List ℕ = flat_map event_line (numbered (next - length newer) newer) in
    let lines : ℕ → List ℕ = λ m. count_line (codes "next") m ++ (flat_map event_line (numbered (m - length newer - length older) older) ++ flat_map event_line (numbered (m - length newer) newer)) in
    let kept = kept_by_values c.args.from queue older newer (queue_at c.args.events.now (event_number c.args.kind) c.prove_shape.ensures) c.unread-unread.ensures in
    c.in_ok-push_events-2.ensures
    ∙ (ap (λ t. t ++ then) c.in_ok-push_events.ensures
    ∙ (ap (λ t. t ++ first ++ then) (c.in_ok-push_count.ensures ∙ ap (λ t. t ++ count_line (codes "next") next) c.new-text.ensures.bytes)
    ∙ (append_assoc (count_line (codes "next") next) first then
    ∙ (ap lines c.next-next.ensures.value
    ∙ ap (λ t. count_line (codes "next") queue.next ++ t) (sym kept.1)))))
