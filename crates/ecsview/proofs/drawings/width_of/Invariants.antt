use Rattle.std.proofs.Common.{◌≡◌, drop}
use Rattle.ecsview.specs.Drawings.{longest_from}
use Rattle.ecsview.proofs.drawings.width_of.Given as goal

-- the runs that are left lead to the longest of all
abbrev pub invariant-loop-trace : goal.invariant-loop-trace
invariant-loop-trace l = longest_from l.longest (drop l.trace-index l.traces) ≡ longest_from 0 l.traces
