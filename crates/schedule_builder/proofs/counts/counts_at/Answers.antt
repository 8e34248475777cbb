use Rattle.std.proofs.Common.{ℕ, ◌≡◌, List, length}
use Rattle.model.specs.Counts.{count_below}
use Rattle.model.specs.steps.Schedule.{ScheduledSystem}
use Rattle.schedule_builder.specs.Counts.{is_at}
use Rattle.schedule_builder.proofs.LoopSteps.{made_next}
use Rattle.schedule_builder.proofs.counts.counts_at.Goals as goal

pub loop-level-preserved : goal.loop-level-preserved
loop-level-preserved c =
    let systems : List ScheduledSystem = c.args.systems.now in
    let next = made_next (λ k (count : ℕ). count ≡ count_below (is_at systems k) (length systems)) 0 c.loop-level.counts.items c.push.new.self.items c.loop-level.level _
    c.loop-level.invariant.long c.loop-level.invariant.each c.count_at.ensures c.in_ok-push.ensures.items in
    record { long = next.0; each = next.1 }
