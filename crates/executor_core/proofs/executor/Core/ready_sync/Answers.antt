use Rattle.std.proofs.Common.{ℕ, subst}
use Rattle.model.specs.declared.steps.Step.TheVariants.{Sync}
use Rattle.model.specs.steps.Schedule.{recording}
use Rattle.model.specs.steps.Lawful.{MaySync}
use Rattle.executor_core.proofs.Judging.{no_sync}
use Rattle.executor_core.proofs.Telling.{refused}
use Rattle.executor_core.proofs.executor.Core.ready_sync.Goals as goal

pub returns-in-Err : goal.returns-in-Err
returns-in-Err c = λ sets h stands.
    let core = c.args.self.now in
    no_sync core sets h stands (subst (λ (k : ℕ). MaySync (recording core.schedule sets) h k → ⊥) c.done.ensures
    (refused (recording core.schedule sets) h (Sync c.done.result) _ stands.lawful (c.in-Err.ensures.judged sets h stands)))
