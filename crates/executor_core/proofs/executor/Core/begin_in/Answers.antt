use Rattle.executor_core.proofs.Rows.{cleared_renewed, stands_begun}
use Rattle.executor_core.proofs.executor.Core.begin_in.Goals as goal

pub returns-clause-stands : goal.returns-clause-stands
returns-clause-stands c =
    let new = c.renew_later.new.self in
    let made = c.renew_later.ensures in
    stands_begun new c.args.sets.now (cleared_renewed c.forget.new.self new made.rest c.in_ok-forget.ensures.cleared) (record { meets = made.met; clashes = made.clashed; due = λ there e. (made.due there e).1 })
