use Rattle.std.proofs.Common.{◌≡◌, map, take, Some}
use Rattle.engine.specs.Meanings.{Suits, meanings}
use Rattle.model.specs.sessions.Sessions.{AreReplayedRuns}
use Rattle.session.proofs.replaying.replay_runs.Given as goal

-- the runs so far are taken again, by bodies that mean what they meant
abbrev pub invariant-loop-trace : goal.invariant-loop-trace
invariant-loop-trace g l = record {
  replayed : AreReplayedRuns l.built (meanings g.B.Body.meaning l.built (map Some l.fn.bodies)) l.fn.state (take l.trace-index l.traces) l.state;
  suits : Suits g.B.Body.fits l.built (map Some l.bodies) l.state;
  meant : meanings g.B.Body.meaning l.built (map Some l.bodies) ≡ meanings g.B.Body.meaning l.built (map Some l.fn.bodies);
  same : l.checker ≡ l.built;
  count : l.number ≡ l.trace-index;
}
