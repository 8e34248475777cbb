use Rattle.std.proofs.Common.{refl, arith}
use Rattle.executor_core.proofs.Judging.{told_no, sync_repeated, sync_not-ready, sync_level-open, sync_may}
use Rattle.executor_core.proofs.executor.Core.may_sync.Goals as goal

pub returns-then-sync-done-clause-judged : goal.returns-then-sync-done-clause-judged
returns-then-sync-done-clause-judged c = λ sets h stands. sync_repeated c.args.self.now sets h c.args.sync stands (omega arith) (omega arith)

pub returns-then-done-sync-clause-judged : goal.returns-then-done-sync-clause-judged
returns-then-done-sync-clause-judged c = λ sets h stands. sync_not-ready c.args.self.now sets h c.args.sync stands (omega arith) (omega arith)

pub returns-then-is_open-clause-judged : goal.returns-then-is_open-clause-judged
returns-then-is_open-clause-judged c = λ sets h stands. sync_level-open c.args.self.now sets h c.args.sync stands (omega arith) (omega arith) (omega arith) (c.if-is_open.ensures.0 refl)

pub returns-clause-judged : goal.returns-clause-judged
returns-clause-judged c = λ sets h stands. sync_may c.args.self.now sets h c.args.sync stands (omega arith) (omega arith) (omega arith) (told_no c.if-is_open.ensures)
