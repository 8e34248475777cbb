use Rattle.session.proofs.Lockstep.{one_reply_agrees, replies_agree as all_agree}
use Rattle.session.proofs.laws.replies_agree.Goals as goal

pub returns-clause-one : goal.returns-clause-one
returns-clause-one g c = one_reply_agrees g.B.Body.meaning g.C.Body.meaning

pub returns-clause-all : goal.returns-clause-all
returns-clause-all g c = all_agree g.B.Body.meaning g.C.Body.meaning
