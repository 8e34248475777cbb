use Rattle.std.proofs.Common.{◌<◌, length, sym, arith}
use Rattle.executor_core.proofs.Judging.{finish_not-running}
use Rattle.executor_core.proofs.executor.Core.may_finish.Goals as goal

pub returns-then-not-is_running-clause-judged : goal.returns-then-not-is_running-clause-judged
returns-then-not-is_running-clause-judged c = λ sets h stands.
    let known : c.args.system < length c.args.self.now.schedule.systems = omega arith in
    finish_not-running c.args.self.now sets h c.args.system stands known (sym c.if-not-is_running.ensures)
