use Rattle.std.proofs.Common.{ℕ, ◌<◌, false, ◌≡◌, get_or}
use Rattle.cycle_search.specs.declared.order.Order.{Order}
use Rattle.system_set.specs.Pairs.{is_open_pair}
use Rattle.system_set.proofs.members.first_open.Given as goal

abbrev pub invariant-loop-place : goal.invariant-loop-place
invariant-loop-place l = (k : ℕ) (d : Order) → k < l.place → is_open_pair l.marks l.set (get_or l.pairs k d) ≡ false
