use Rattle.std.proofs.Common.{ℕ, ◌==◌, List, get_or, ap, ◌∙◌}
use Rattle.std.proofs.lemmas.Bool.{eq-eqb, ne_eqb}
use Rattle.cycle_search.specs.declared.order.Order.{Order}
use Rattle.schedule_builder.proofs.LoopSteps.{found_next, passed_next}
use Rattle.schedule_builder.proofs.schedule_order.predecessors_of.Goals as goal
use Rattle.schedule_builder.proofs.schedule_order.predecessors_of.Goals.{then-order-item+in_ok-push, else-order-item}

pub loop-order-preserved : goal.loop-order-preserved
loop-order-preserved c =
    let orders : List Order = c.args.orders.now in
    let i : ℕ = c.loop-order.order-index in
    let n : ℕ = c.args.item in
    let d : Order = record { first = 0; second = 0 } in
    let o : Order = get_or orders i d in
    elim c.if-order-item.branch [
      | then-order-item+in_ok-push w ↦
          found_next (λ (r : Order). r.first) (λ (r : Order). r.second == n) orders i d c.loop-order.items.items c.if-order-item.items.items c.loop-order-test.true (eq-eqb o.second n w.if-order-item.true)
          c.loop-order.invariant (ap (λ v. v.items) w.items-is ∙ w.in_ok-push.ensures.items)
      | else-order-item w ↦
          ap (λ v. v.items) w.items-is
          ∙ passed_next (λ (r : Order). r.first) (λ (r : Order). r.second == n) orders i d c.loop-order.items.items c.loop-order-test.true (ne_eqb o.second n w.if-order-item.false) c.loop-order.invariant
    ]
