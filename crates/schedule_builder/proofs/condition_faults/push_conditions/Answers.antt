use Rattle.std.proofs.Common.{map, refl}
use Rattle.schedule_builder.proofs.LoopSteps.{kept_next}
use Rattle.schedule_builder.proofs.condition_faults.push_conditions.Goals as goal

pub loop-condition-preserved : goal.loop-condition-preserved
loop-condition-preserved c =
    kept_next (λ x. x.now) c.args.conditions.now c.loop-condition.condition-index c.condition-item.result (map (λ x. x.now) c.args.asked.now.items) c.loop-condition.asked.items c.push.new.self.items _
    c.loop-condition-test.true c.condition-item.is refl c.loop-condition.invariant c.in_ok-push.ensures.items
