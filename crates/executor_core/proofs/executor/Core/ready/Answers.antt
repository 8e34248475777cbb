use Rattle.model.specs.steps.Schedule.{recording}
use Rattle.model.proofs.serial.Recording.{built-recording}
use Rattle.executor_core.proofs.Telling.{ready_may, ready_nothing, ready_complete}
use Rattle.executor_core.proofs.executor.Core.ready.Goals as goal

pub returns-clause-may : goal.returns-clause-may
returns-clause-may c = λ sets h stands. ready_may (recording c.args.self.now.schedule sets) h c.first_offer.result (built-recording c.args.self.now.schedule sets c.built_law.ensures) stands.lawful (c.first_offer.ensures sets h stands)

pub returns-clause-nothing : goal.returns-clause-nothing
returns-clause-nothing c = λ sets h stands. ready_nothing (recording c.args.self.now.schedule sets) h c.first_offer.result (built-recording c.args.self.now.schedule sets c.built_law.ensures) stands.lawful (c.first_offer.ensures sets h stands)

pub returns-clause-complete : goal.returns-clause-complete
returns-clause-complete c = λ sets h stands. ready_complete (recording c.args.self.now.schedule sets) h c.first_offer.result (built-recording c.args.self.now.schedule sets c.built_law.ensures) stands.lawful (c.first_offer.ensures sets h stands)
