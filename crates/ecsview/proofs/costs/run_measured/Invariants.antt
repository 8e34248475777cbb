use Rattle.std.proofs.Common.{◌≤◌, ◌-◌}
use Rattle.ecsview.proofs.costs.run_measured.Given as goal

abbrev pub invariant-loop-done : goal.invariant-loop-done
invariant-loop-done g l = l.done ≤ l.times

abbrev pub decreases-loop-done : goal.decreases-loop-done
decreases-loop-done g l = l.times - l.done
