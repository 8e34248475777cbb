use Rattle.std.proofs.Common.{◌≡◌, take}
use Rattle.std.specs.List.{AllByRecursion}
use Rattle.ecsview.specs.Drawings.{IsLawfulRun}
use Rattle.ecsview.proofs.drawings.check_steps.Given as goal

-- the runs so far are lawful
abbrev pub invariant-loop-trace : goal.invariant-loop-trace
invariant-loop-trace l = record {
  count : l.run ≡ l.trace-index;
  lawful : AllByRecursion (IsLawfulRun l.built) (take l.trace-index l.traces);
}
