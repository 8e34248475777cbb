use Rattle.std.proofs.Common.{Some, Err, ◌∙◌}
use Rattle.model.specs.declared.steps.Step.TheVariants.{Sync}
use Rattle.model.specs.steps.Schedule.{recording}
use Rattle.executor_core.proofs.Telling.{tells_may}
use Rattle.executor_core.specs.Stands.{Stand}
use Rattle.executor_core.proofs.AcceptedSteps.{stands_renewed}
use Rattle.executor_core.proofs.executor.Core.sync_in.Goals as goal

pub returns-in-Err-clause-accepts : goal.returns-in-Err-clause-accepts
returns-in-Err-clause-accepts c = λ sets h stands. tells_may (recording c.args.self.now.schedule sets) h (Sync c.args.sync) (Err c.in-Err.fault) stands.lawful (c.in-Err.ensures.judged sets h stands)

pub returns-clause-stands : goal.returns-clause-stands
returns-clause-stands c = λ lists h stands.
    let new : Stand = c.renew_later.new.self in
    let made = c.renew_later.ensures in
    stands_renewed c.args.self.now new lists c.args.sets.now h c.args.sync stands (c.in_default.ensures.judged (Some lists) h stands)
    (made.rest ∙ (λ i. record (c.pass_sync.ensures i) { due = new.due; met = new.met; clashed = new.clashed })) made.met made.clashed made.due
