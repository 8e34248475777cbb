-- An id is cut at its v.
use Rattle.requests.proofs.Ids.{no_id, only_id, no_index, no_generation}
use Rattle.requests.proofs.words.read_id.Goals as goal

pub returns : goal.returns
returns c =
    only_id c.args.word.now c.in_ok-index.index c.in_ok-index.generation c.in_ok-index.ensures.cases c.in_ok-read_number.field-0 c.in_ok-read_number-2.field-0
    c.in_ok-read_number.ensures c.in_ok-read_number-2.ensures

pub returns-in_err-index : goal.returns-in_err-index
returns-in_err-index c = rw c.from_residual.ensures (no_id c.args.word.now c.in_err-index.ensures.cases)

pub returns-in_err-read_number : goal.returns-in_err-read_number
returns-in_err-read_number c =
    rw c.from_residual-in_err-read_number.ensures (no_index c.args.word.now c.in_ok-index.index c.in_ok-index.generation c.in_ok-index.ensures.cases c.in_err-read_number.ensures)

pub returns-in_err-read_number-2 : goal.returns-in_err-read_number-2
returns-in_err-read_number-2 c =
    rw c.from_residual-in_err-read_number-2.ensures (no_generation c.args.word.now c.in_ok-index.index c.in_ok-index.generation c.in_ok-index.ensures.cases c.in_err-read_number-2.ensures)
