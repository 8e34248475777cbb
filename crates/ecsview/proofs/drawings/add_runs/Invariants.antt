use Rattle.std.proofs.Common.{◌≡◌, ◌++◌, drop}
use Rattle.ecsview.specs.Drawings.{height_from, lanes_from}
use Rattle.ecsview.proofs.drawings.add_runs.Given as goal

-- the runs that are left, drawn behind those that are there, make the drawing of all, and lead to its end
abbrev pub invariant-loop-trace : goal.invariant-loop-trace
invariant-loop-trace l = record {
  drawn : l.shapes.items ++ lanes_from l.run l.top (drop l.trace-index l.traces) ≡ l.fn.shapes.items ++ lanes_from l.before l.above l.traces;
  end : height_from l.top (drop l.trace-index l.traces) ≡ height_from l.above l.traces;
}
