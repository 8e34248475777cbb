use Rattle.session.specs.Entries.{kept}
use Rattle.session.specs.Played.{HavePlayed}
use Rattle.session.proofs.play.play_by.Given as goal

-- the lines so far were recorded and replied
abbrev pub invariant-loop : goal.invariant-loop
invariant-loop g l =
    HavePlayed g.B.Body.meaning (g.M.SpawnThreads.has_scope l.mode) (g.M.Mode.width l.mode) l.fn.session l.session
    (record { input = g.R.Read.remaining l.fn.requests; output = g.O.Write.contents l.fn.out; recorded = kept g.J.Write.contents l.fn.journal })
    (record { input = g.R.Read.remaining l.requests; output = g.O.Write.contents l.out; recorded = kept g.J.Write.contents l.journal })
