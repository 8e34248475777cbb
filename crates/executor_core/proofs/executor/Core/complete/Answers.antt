use Rattle.std.proofs.Common.{◌≤◌, arith, leb-true, le-leb}
use Rattle.model.specs.steps.Schedule.{recording}
use Rattle.model.proofs.serial.Recording.{built-recording}
use Rattle.executor_core.proofs.Telling.{tells_complete, goes_on}
use Rattle.executor_core.proofs.executor.Core.complete.Goals as goal

pub returns-clause-exact : goal.returns-clause-exact
returns-clause-exact c = λ sets h stands.
    tells_complete c.args.self.now sets h _
    (λ e. let all : c.syncs.result ≤ c.done.result = leb-true c.syncs.result c.done.result e in omega arith)
    (λ all. le-leb c.syncs.result c.done.result (omega arith)) c.built_law.ensures stands

pub returns-clause-goes_on : goal.returns-clause-goes_on
returns-clause-goes_on c = λ sets h stands.
    goes_on (recording c.args.self.now.schedule sets) h _ (built-recording c.args.self.now.schedule sets c.built_law.ensures) stands.lawful
    (tells_complete c.args.self.now sets h _
    (λ e. let all : c.syncs.result ≤ c.done.result = leb-true c.syncs.result c.done.result e in omega arith)
    (λ all. le-leb c.syncs.result c.done.result (omega arith)) c.built_law.ensures stands)
