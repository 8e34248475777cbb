use Rattle.session.proofs.BodyLines.{passed_rest}
use Rattle.session.proofs.body_lines.take_line.Goals as goal

pub returns-in-Err-Memory : goal.returns-in-Err-Memory
returns-in-Err-Memory g c =
    rw c.in-Whole.is (passed_rest (g.R.Read.remaining c.args.requests.now) (g.R.Read.remaining c.next_line.new.reader) (g.R.Read.remaining c.pass_over.new.requests)
    c.args.body.now.items c.args.body.now.items c.pass_over.result c.in-Err-Memory.ensures.err c.pass_over.ensures)
