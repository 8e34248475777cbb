use Rattle.std.proofs.Common.{ℕ, ◌<◌, ◌+◌, cond, Bool, ◌≡◌, get_or, subst, arith}
use Rattle.cycle_search.proofs.Walks.{at_has}
use Rattle.executor_core.proofs.counts.Counts.lower_each.Goals as goal

-- no number was taken from so far
pub loop-number-init : goal.loop-number-init
loop-number-init c = λ n. omega arith

-- so something is left of the next
pub lower-requires : goal.lower-requires
lower-requires c =
    let i : ℕ = c.loop-number.number-index in
    let n : ℕ = get_or c.args.numbers.now i 0 in
    let some : 0 < get_or c.args.self.now n 0 = c.requires.above n (at_has c.args.numbers.now i c.loop-number-test.true) in
    let same : get_or c.loop-number.self n 0 + 0 ≡ get_or c.args.self.now n 0 = subst (λ (b : Bool). get_or c.loop-number.self n 0 + cond b 1 0 ≡ get_or c.args.self.now n 0) (c.requires.once i c.loop-number-test.true) (c.loop-number.invariant n) in
    omega arith
