use Rattle.std.proofs.Common.{◌≡◌, take}
use Rattle.trace_checker.specs.Verdicts.{AreVerdicts}
use Rattle.trace_checker.proofs.check.check_all.Given as goal

-- something is said of each trace so far
abbrev pub invariant-loop-trace : goal.invariant-loop-trace
invariant-loop-trace l = record {
  schedule : l.checker ≡ l.built;
  said : AreVerdicts l.built (take l.trace-index l.traces) l.verdicts.items;
}
