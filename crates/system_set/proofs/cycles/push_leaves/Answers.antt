use Rattle.std.proofs.Common.{ℕ, ap₂}
use Rattle.model.proofs.lists.Turns.{mapped_next, mapped_all}
use Rattle.cycle_search.specs.declared.order.Order.{Order}
use Rattle.system_set.specs.Nodes.{leave_step}
use Rattle.system_set.proofs.cycles.push_leaves.Goals as goal

pub loop-pair-preserved : goal.loop-pair-preserved
loop-pair-preserved c =
    mapped_next (leave_step c.args.sets c.args.items) c.args.pairs.now c.loop-pair.pair-index _ c.args.steps.now.items c.loop-pair.steps.items c.push.new.self.items _ c.loop-pair-test.true c.loop-pair.invariant
    (ap₂ (λ (a b : ℕ). let o : Order = record { first = a; second = b } in o) c.leave.ensures c.leave-in-loop-pair.ensures) c.in_ok-push.ensures.items

pub returns : goal.returns
returns c = mapped_all (leave_step c.args.sets c.args.items) c.args.pairs.now c.loop-pair.pair-index c.args.steps.now.items c.loop-pair.steps.items c.loop-pair-test.false c.loop-pair.invariant
