-- The line of a condition is read by its tail.
use Rattle.trace_checker.proofs.Answers.{none_asked_at, only_asked_at}
use Rattle.trace_checker.proofs.line.plain_line.Goals as goal

pub returns-in_err-condition-in-67 : goal.returns-in_err-condition-in-67
returns-in_err-condition-in-67 c =
    rw c.from_residual-in_err-condition-in-67.ensures (none_asked_at c.args.bytes.now (search) (search) (search) (c.in_err-condition-in-67.ensures))

pub returns-in_ok-condition-in-67 : goal.returns-in_ok-condition-in-67
returns-in_ok-condition-in-67 c = only_asked_at c.args.bytes.now (search) (search) (search) _ _ (c.in_ok-condition-in-67.ensures)
