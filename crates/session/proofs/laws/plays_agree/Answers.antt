use Rattle.session.proofs.LinesAlike.{one_line_agrees, plays_agree as all_agree}
use Rattle.session.proofs.laws.plays_agree.Goals as goal

pub returns-clause-one : goal.returns-clause-one
returns-clause-one g c = one_line_agrees g.B.Body.meaning g.C.Body.meaning

pub returns-clause-all : goal.returns-clause-all
returns-clause-all g c = all_agree g.B.Body.meaning g.C.Body.meaning
