use Rattle.executor_core.proofs.Rows.{stands_opened}
use Rattle.executor_core.proofs.executor.Core.new_in.Goals as goal

pub returns-clause-stands : goal.returns-clause-stands
returns-clause-stands c =
    let made = c.renew_later.ensures in
    stands_opened c.in_ok-core.core c.renew_later.new.self c.args.sets.now c.in_ok-core.ensures.stands made.rest made.met made.clashed made.due
