use Rattle.std.proofs.Common.{ℕ, ◌≡◌, ◌∙◌, ◌||◌, ◌&&◌, eqb, Bool, arith, subst, get_or}
use Rattle.cycle_search.specs.declared.order.Order.{Order}
use Rattle.system_set.specs.Pairs.{is_marked}
use Rattle.system_set.proofs.EdgeLists.{seconds_more, seconds_all}
use Rattle.system_set.proofs.edges.marked_after.Goals as goal

pub loop-order-preserved : goal.loop-order-preserved
loop-order-preserved c =
    let d : Order = record { first = 0; second = 0 } in
    let o : Order = get_or c.args.orders.now c.loop-order.order-index d in
    let old = c.loop-order.marks.items in
    let new = c.mark_if.new.marks.items in
    record {
      long = c.mark_if.ensures.long ∙ c.loop-order.invariant.long;
      seconds =
          seconds_more c.args.sets c.args.rows.now c.args.orders.now c.loop-order.order-index d c.args.system old new (omega arith) c.loop-order.invariant.seconds
          (subst (λ (b : Bool). (n : ℕ) → is_marked new n ≡ ((b && eqb o.second n) || is_marked old n)) c.is_member_of.ensures c.mark_if.ensures.marked);
    }

pub returns : goal.returns
returns c = seconds_all c.args.sets c.args.rows.now c.args.orders.now c.loop-order.order-index c.args.system c.loop-order.marks.items (omega arith) c.loop-order.invariant.seconds
