use Rattle.std.proofs.Common.{◌≡◌, map, Some}
use Rattle.engine.specs.Meanings.{AreFit, meanings}
use Rattle.session.specs.Records.{IsTakenAgain}
use Rattle.session.proofs.replaying.replay_record.Given as goal

-- the entries so far are taken again, by bodies that mean what they meant
abbrev pub invariant-loop-entries : goal.invariant-loop-entries
invariant-loop-entries g l = record {
  taken : IsTakenAgain g.B.Body.meaning (meanings g.B.Body.meaning l.fn.session.engine.schedule (map Some l.fn.bodies)) l.fn.session l.session l.journal l.rest (g.O.Write.contents l.fn.out) (g.O.Write.contents l.out);
  schedule : l.session.engine.schedule ≡ l.fn.session.engine.schedule;
  fit : AreFit g.B.Body.fits l.fn.session.engine.schedule (map Some l.bodies);
  meant : meanings g.B.Body.meaning l.fn.session.engine.schedule (map Some l.bodies) ≡ meanings g.B.Body.meaning l.fn.session.engine.schedule (map Some l.fn.bodies);
}
