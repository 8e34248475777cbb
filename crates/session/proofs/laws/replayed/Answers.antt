use Rattle.session.proofs.Replayed.{one_replayed, records_replayed}
use Rattle.session.proofs.laws.replayed.Goals as goal

pub returns-clause-one : goal.returns-clause-one
returns-clause-one g c = one_replayed g.B.Body.meaning g.C.Body.meaning

pub returns-clause-all : goal.returns-clause-all
returns-clause-all g c = records_replayed g.B.Body.meaning g.C.Body.meaning
