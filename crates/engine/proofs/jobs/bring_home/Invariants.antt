-- No body is lost, and each job that comes back leaves fewer.
use Rattle.std.proofs.Common.{List, length}
use Rattle.model.specs.shown.Outcome.{BodyMeaning}
use Rattle.model.specs.steps.Schedule.{Schedule}
use Rattle.engine.specs.Jobs.{AreKept}
use Rattle.engine.proofs.jobs.bring_home.Given as goal

abbrev pub invariant-loop-jobs : goal.invariant-loop-jobs
invariant-loop-jobs g l =
    (s : Schedule) (bodies : List BodyMeaning) → AreKept g.B.Body.meaning g.B.Body.fits (g.M.SpawnThreads.has_scope l.mode) s bodies l.fn.jobs.bodies l.fn.jobs.pool
    → AreKept g.B.Body.meaning g.B.Body.fits (g.M.SpawnThreads.has_scope l.mode) s bodies l.jobs.bodies l.jobs.pool

abbrev pub decreases-loop-jobs : goal.decreases-loop-jobs
decreases-loop-jobs g l = length l.jobs.pool
