use Rattle.std.proofs.Common.{ℕ, ap₂}
use Rattle.model.proofs.lists.Turns.{mapped_next, mapped_all}
use Rattle.cycle_search.specs.declared.order.Order.{Order}
use Rattle.system_set.specs.Nodes.{cross_step}
use Rattle.system_set.proofs.cycles.push_crossings.Goals as goal

pub loop-order-preserved : goal.loop-order-preserved
loop-order-preserved c =
    mapped_next (cross_step c.args.sets c.args.items) c.args.orders.now c.loop-order.order-index _ c.args.steps.now.items c.loop-order.steps.items c.push.new.self.items _ c.loop-order-test.true c.loop-order.invariant
    (ap₂ (λ (a b : ℕ). let o : Order = record { first = a; second = b } in o) c.leave.ensures c.enter.ensures) c.in_ok-push.ensures.items

pub returns : goal.returns
returns c = mapped_all (cross_step c.args.sets c.args.items) c.args.orders.now c.loop-order.order-index c.args.steps.now.items c.loop-order.steps.items c.loop-order-test.false c.loop-order.invariant
