use Rattle.executor_core.proofs.Rows.{meetings_same, stands_begun}
use Rattle.executor_core.proofs.executor.Core.begin_same.Goals as goal

pub returns-clause-stands : goal.returns-clause-stands
returns-clause-stands c = λ sets are.
    let new = c.forget.new.self in
    let ok = c.in_ok-forget.ensures in
    stands_begun new sets ok.cleared (meetings_same c.args.self.now new sets ok.rest are)
