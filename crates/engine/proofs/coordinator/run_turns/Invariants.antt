-- What a run knows between two turns: the core stands for the steps so far, and their meaning is the state with what is deferred and the jobs that
-- are out.
use Rattle.std.proofs.Common.{◌≡◌, ◌-◌, true, length, is_some}
use Rattle.executor_core.specs.Stands.{Stands, room}
use Rattle.engine.specs.Meanings.{meanings}
use Rattle.engine.specs.Next.{IsBetween}
use Rattle.engine.specs.Starts.{starts_in}
use Rattle.engine.proofs.coordinator.run_turns.Given as goal

abbrev pub invariant-loop-turn : goal.invariant-loop-turn
invariant-loop-turn g l = record {
  schedule : l.core.schedule ≡ l.built;
  records : is_some l.trace.sets ≡ true;
  stands : Stands l.core l.trace.sets l.trace.steps;
  started : l.jobs.started ≡ starts_in l.trace.steps;
  between : IsBetween g.B.Body.meaning g.B.Body.fits (g.M.SpawnThreads.has_scope l.mode) (g.M.Mode.width l.mode) l.built l.trace.sets (meanings g.B.Body.meaning l.built l.fn.jobs.bodies) l.fn.run.state.state l.trace.steps l.jobs.bodies l.run.deferred l.jobs.pool l.run.state;
}

abbrev pub decreases-loop-turn : goal.decreases-loop-turn
decreases-loop-turn g l = room l.built - length l.trace.steps
