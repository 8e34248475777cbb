use Rattle.std.proofs.Common.{ℕ, get_or, subst, refl}
use Rattle.std.proofs.lemmas.List.{get_or_default}
use Rattle.cycle_search.specs.declared.order.Order.{Order}
use Rattle.cycle_search.specs.Cycles.{IsFalling}
use Rattle.cycle_search.proofs.ranks.are_falling.Goals as goal
use borrow.Author.Count.{below_more}

pub loop-order-preserved : goal.loop-order-preserved
loop-order-preserved c = λ k d low.
    below_more (λ (j : ℕ). (e : Order) → IsFalling c.args.ranks.now (get_or c.args.orders.now j e)) c.loop-order.order-index (λ j below e. c.loop-order.invariant j e below)
    (λ e. subst (IsFalling c.args.ranks.now) (get_or_default c.args.orders.now c.loop-order.order-index (record { first = 0; second = 0 }) e c.loop-order-test.true) (c.if-not-is_falling.ensures.0 refl))
    k low d
