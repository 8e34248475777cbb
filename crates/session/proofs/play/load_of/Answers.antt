use Rattle.session.proofs.LoadTurns.{read_line}
use Rattle.session.proofs.play.load_of.Goals as goal

pub returns : goal.returns
returns c = read_line c.in-Ok.text.now c.args.line.now c.read_load.result c.in-Ok.ensures.cases.0 c.read_load.ensures
