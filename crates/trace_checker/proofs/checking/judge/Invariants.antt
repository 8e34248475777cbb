use Rattle.std.proofs.Common.{◌≡◌, ◌≤◌, take, reverse}
use Rattle.model.specs.steps.Lawful.{syncs_in}
use Rattle.executor_core.specs.Stands.{Stands}
use Rattle.trace_checker.specs.Verdicts.{sets_so_far}
use Rattle.trace_checker.proofs.checking.judge.Given as goal

-- the core stands for the steps so far, and the sync points among them are counted
abbrev pub invariant-loop-step : goal.invariant-loop-step
invariant-loop-step l = record {
  stands : Stands l.core (sets_so_far l.trace.sets (reverse (take l.step-index l.steps))) (reverse (take l.step-index l.steps));
  schedule : l.core.schedule ≡ l.built;
  count : l.number ≡ l.step-index;
  syncs : l.syncs ≡ syncs_in (reverse (take l.step-index l.steps));
  within : l.syncs ≤ l.step-index;
}
