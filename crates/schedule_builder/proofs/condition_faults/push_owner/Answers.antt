use Rattle.std.proofs.Common.{refl}
use Rattle.model.specs.access.Condition.Condition.{RunOnce}
use Rattle.model.proofs.lists.Turns.{mapped_next}
use Rattle.schedule_builder.proofs.condition_faults.push_owner.Goals as goal

pub loop-preserved : goal.loop-preserved
loop-preserved c = mapped_next (λ _. c.args.number) c.args.conditions.now c.loop.index RunOnce c.args.owners.now.items c.loop.owners.items c.push.new.self.items c.args.number c.loop-test.true c.loop.invariant refl c.in_ok-push.ensures.items
