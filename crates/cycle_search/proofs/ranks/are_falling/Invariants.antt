use Rattle.std.proofs.Common.{ℕ, ◌<◌, get_or}
use Rattle.cycle_search.specs.declared.order.Order.{Order}
use Rattle.cycle_search.specs.Cycles.{IsFalling}
use Rattle.cycle_search.proofs.ranks.are_falling.Given as goal

abbrev pub invariant-loop-order : goal.invariant-loop-order
invariant-loop-order l = (k : ℕ) (d : Order) → k < l.order-index → IsFalling l.ranks (get_or l.orders k d)
