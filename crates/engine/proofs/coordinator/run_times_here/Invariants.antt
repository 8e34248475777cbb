-- What is known between two runs on one thread.
use Rattle.std.proofs.Common.{◌≡◌, true, is_some, length}
use Rattle.std.specs.List.{AllByRecursion}
use Rattle.model.specs.runs.WideRuns.{AreWideRuns}
use Rattle.engine.specs.Latest.{IsFollowing}
use Rattle.engine.specs.Meanings.{meanings}
use Rattle.engine.specs.Next.{IsAtRest}
use Rattle.engine.proofs.coordinator.run_times_here.Given as goal

abbrev pub invariant-loop-run : goal.invariant-loop-run
invariant-loop-run g l = record {
  count : length l.recording.traces.items ≡ l._run;
  records : AllByRecursion (λ r. is_some r.sets ≡ true) l.recording.traces.items;
  ran : AreWideRuns 1 l.built (meanings g.B.Body.meaning l.built l.fn.bodies) l.fn.run.state.state l.recording.traces.items l.run.state.state;
  rest : IsAtRest g.B.Body.meaning g.B.Body.fits l.built l.bodies l.run.deferred l.run.state;
  following : IsFollowing l.recording.core.value l.built l.recording.sets l.run.state.state.world.slots;
  meant : meanings g.B.Body.meaning l.built l.bodies ≡ meanings g.B.Body.meaning l.built l.fn.bodies;
}
