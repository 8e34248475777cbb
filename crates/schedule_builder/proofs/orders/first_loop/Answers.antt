use Rattle.cycle_search.specs.declared.order.Order.{Order}
use Rattle.schedule_builder.proofs.Orderings.{loop_more, loop_here, loop_none}
use Rattle.schedule_builder.proofs.orders.first_loop.Goals as goal

pub returns-then-order : goal.returns-then-order
returns-then-order c =
    let d : Order = record { first = 0; second = 0 } in
    loop_here c.args.orders.now c.loop-order.order-index d c.loop-order-test.true c.loop-order.invariant c.if-order.true

pub loop-order-preserved : goal.loop-order-preserved
loop-order-preserved c =
    let d : Order = record { first = 0; second = 0 } in
    loop_more c.args.orders.now c.loop-order.order-index d c.loop-order-test.true c.loop-order.invariant c.if-order.false

pub returns : goal.returns
returns c = loop_none c.args.orders.now c.loop-order.order-index c.loop-order-test.false c.loop-order.invariant
