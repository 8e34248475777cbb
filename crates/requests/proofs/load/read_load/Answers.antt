use Rattle.requests.proofs.FirstWords.{no_word, other_word, reads_rest}
use Rattle.requests.proofs.load.read_load.Goals as goal

pub returns-in_err-rest : goal.returns-in_err-rest
returns-in_err-rest c = rw c.from_residual.ensures (no_word c.args.line.now c.in_err-rest.ensures)

pub returns-in-load-default : goal.returns-in-load-default
returns-in-load-default c = reads_rest c.args.line.now c.in_ok-rest.field-0.0.now c.in_ok-rest.field-0.1.now c.in_ok-rest.ensures c.in-load-default.is-load-0 c.behind_load.result c.behind_load.ensures

pub returns-in_default : goal.returns-in_default
returns-in_default c = other_word c.args.line.now c.in_ok-rest.field-0.0.now c.in_ok-rest.field-0.1.now c.in_ok-rest.ensures c.in_default.not-load-0
