use Rattle.std.proofs.Common.{◌≡◌, ◌≤◌, map, take, reverse, Some}
use Rattle.engine.specs.Deferred.{run_with}
use Rattle.engine.specs.Meanings.{meanings}
use Rattle.model.specs.steps.Lawful.{syncs_in}
use Rattle.model.specs.steps.Schedule.{recording}
use Rattle.model.specs.runs.Replays.{IsReached}
use Rattle.trace_checker.specs.Standing.{StandsBetween}
use Rattle.trace_checker.proofs.replay.take_steps.Given as goal

-- the steps so far are taken, the sync points among them are counted, the bodies mean what they meant and suit the state, no column is away, and what systems have deferred is for the schedule,
-- with its ids in hand
abbrev pub invariant-loop-step : goal.invariant-loop-step
invariant-loop-step g l = record {
  count : l.number ≡ l.step-index;
  place : l.place ≡ syncs_in (reverse (take l.step-index l.steps));
  within : l.place ≤ l.step-index;
  reached : IsReached (recording l.built l.trace.sets) (meanings g.B.Body.meaning l.built (map Some l.fn.bodies)) l.fn.run.state.state (reverse (take l.step-index l.steps)) (run_with l.run.state.state l.run.deferred);
  stands : StandsBetween g.B.Body.fits l.built (map Some l.bodies) l.run.deferred l.run.state;
  meant : meanings g.B.Body.meaning l.built (map Some l.bodies) ≡ meanings g.B.Body.meaning l.built (map Some l.fn.bodies);
}
