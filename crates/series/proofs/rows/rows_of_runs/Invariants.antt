use Rattle.std.proofs.Common.{◌≡◌, ◌≤◌, ◌-◌, ◌++◌, List, IsFalse}
use Rattle.engine.specs.Meanings.{meanings}
use Rattle.series.specs.Rows.{AreRows, AreRowsFrom, LeadOn}
use Rattle.series.specs.declared.rows.Row.{Row}
use Rattle.series.proofs.rows.rows_of_runs.Given as goal

-- the runs so far lead here, and the rows that are left make all behind those so far
abbrev pub invariant-loop-run : goal.invariant-loop-run
invariant-loop-run g l = record {
  within : l.run ≤ l.times;
  schedule : l.engine.schedule ≡ l.fn.engine.schedule;
  meant : meanings g.B.Body.meaning l.fn.engine.schedule l.engine.bodies ≡ meanings g.B.Body.meaning l.fn.engine.schedule l.fn.engine.bodies;
  sound : IsFalse l.engine.spoiled;
  led : LeadOn l.fn.engine.schedule (meanings g.B.Body.meaning l.fn.engine.schedule l.fn.engine.bodies) l.run l.fn.engine.state l.engine.state;
  rest : (more : List Row) → AreRowsFrom l.fn.engine.schedule (meanings g.B.Body.meaning l.fn.engine.schedule l.fn.engine.bodies) l.series l.every l.times l.run l.engine.state more
      → AreRows l.fn.engine.schedule (meanings g.B.Body.meaning l.fn.engine.schedule l.fn.engine.bodies) l.series l.every l.times l.fn.engine.state (l.rows.items ++ more);
}

abbrev pub decreases-loop-run : goal.decreases-loop-run
decreases-loop-run g l = l.times - l.run
