use Rattle.requests.proofs.FirstWords.{no_lines, no_number, no_end, only_behind}
use Rattle.requests.proofs.load.behind_load.Goals as goal

pub returns-in_err-lines : goal.returns-in_err-lines
returns-in_err-lines c = rw c.from_residual.ensures (no_lines c.args.text.now c.in_err-lines.ensures)

pub returns-in_err-read_number : goal.returns-in_err-read_number
returns-in_err-read_number c =
    rw c.from_residual-in_err-read_number.ensures (no_number c.args.text.now c.in_ok-lines.lines.now c.in_ok-lines.rest.now c.in_ok-lines.ensures c.in_err-read_number.ensures)

pub returns-in_err-end_of_load : goal.returns-in_err-end_of_load
returns-in_err-end_of_load c =
    rw c.from_residual-in_err-end_of_load.ensures (no_end c.args.text.now c.in_ok-lines.lines.now c.in_ok-lines.rest.now c.in_ok-lines.ensures c.in_err-end_of_load.ensures)

pub returns : goal.returns
returns c =
    only_behind c.args.text.now c.in_ok-lines.lines.now c.in_ok-lines.rest.now c.in_ok-lines.ensures c.in_ok-read_number.field-0 c.in_ok-end_of_load.field-0
    c.in_ok-read_number.ensures c.in_ok-end_of_load.ensures
