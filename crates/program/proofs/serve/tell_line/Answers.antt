use Rattle.program.proofs.Serving.{told-line}
use Rattle.program.proofs.serve.tell_line.Goals as goal

pub returns : goal.returns
returns g c = told-line _ _ c.write_whole.result c.args.line.now c.write_whole.ensures
