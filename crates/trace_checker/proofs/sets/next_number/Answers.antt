-- A number stands between a space and the next one, or the end.
use Rattle.std.proofs.Common.{refl}
use Rattle.trace_checker.proofs.SetTexts.{none_number, only_number}
use Rattle.trace_checker.proofs.sets.next_number.Goals as goal

pub returns-in_err-number-clause-none : goal.returns-in_err-number-clause-none
returns-in_err-number-clause-none c =
    let e = c.end_of_number-end.ensures in
    rw c.from_residual.ensures (none_number c.args.bytes.now (search) (search) _ refl c.end_of_number-end.result e.within e.before e.space c.in_err-number.ensures)

pub returns-clause-found : goal.returns-clause-found
returns-clause-found c =
    let e = c.end_of_number-end.ensures in
    only_number c.args.bytes.now (search) (search) _ refl c.end_of_number-end.result e.within e.before e.space _ c.in_ok-number.ensures
