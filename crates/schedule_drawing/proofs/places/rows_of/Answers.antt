use Rattle.std.proofs.Common.{max, get_or, refl, sym, ap, ◌∙◌, drop, ◌+◌}
use Rattle.schedule_drawing.specs.Places.{most_rows, next_row}
use Rattle.schedule_drawing.proofs.LoopSteps.{left_next, left_none}
use Rattle.schedule_drawing.proofs.places.rows_of.Goals as goal

pub loop-system-preserved : goal.loop-system-preserved
loop-system-preserved c =
    let rows = c.max-rows.ensures ∙ ap (max c.loop-system.rows) (c.saturating_add.ensures ∙ ap next_row c.row_of.ensures) in
    left_next (most_rows c.args.built.now c.args.leaders.now c.loop-system.rows) (most_rows c.args.built.now c.args.leaders.now c.max-rows.result) c.order-order.result.now c.loop-system.system-index 0 (get_or c.order-order.result.now c.loop-system.system-index 0) (most_rows c.args.built.now c.args.leaders.now 0 c.args.built.now.order)
    c.loop-system-test.true refl c.loop-system.invariant (ap (λ n. most_rows c.args.built.now c.args.leaders.now n (drop (c.loop-system.system-index + 1) c.order-order.result.now)) (sym rows))

pub returns : goal.returns
returns c =
    left_none (most_rows c.args.built.now c.args.leaders.now c.loop-system.rows) c.order-order.result.now c.loop-system.system-index c.loop-system.rows (most_rows c.args.built.now c.args.leaders.now 0 c.args.built.now.order)
    c.loop-system-test.false refl c.loop-system.invariant
