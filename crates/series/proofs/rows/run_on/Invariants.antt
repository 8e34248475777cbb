use Rattle.std.proofs.Common.{◌≡◌, ◌≤◌, ◌-◌, IsFalse}
use Rattle.engine.specs.Meanings.{meanings}
use Rattle.series.specs.Rows.{LeadOn}
use Rattle.series.proofs.rows.run_on.Given as goal

-- the runs so far lead here
abbrev pub invariant-loop-done : goal.invariant-loop-done
invariant-loop-done g l = record {
  within : l.done ≤ l.times;
  schedule : l.engine.schedule ≡ l.fn.engine.schedule;
  meant : meanings g.B.Body.meaning l.fn.engine.schedule l.engine.bodies ≡ meanings g.B.Body.meaning l.fn.engine.schedule l.fn.engine.bodies;
  sound : IsFalse l.engine.spoiled;
  led : LeadOn l.fn.engine.schedule (meanings g.B.Body.meaning l.fn.engine.schedule l.fn.engine.bodies) l.done l.fn.engine.state l.engine.state;
}

abbrev pub decreases-loop-done : goal.decreases-loop-done
decreases-loop-done g l = l.times - l.done
