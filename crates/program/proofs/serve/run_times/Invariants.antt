use Rattle.std.proofs.Common.{◌≡◌, ◌≤◌, ◌-◌, IsFalse}
use Rattle.engine.specs.Meanings.{meanings}
use Rattle.program.specs.Recorded.{HaveKept}
use Rattle.program.specs.Setup.{script_means}
use Rattle.program.proofs.serve.run_times.Given as goal

abbrev pub invariant-loop-done : goal.invariant-loop-done
invariant-loop-done g l = record {
  within : l.done ≤ l.times;
  schedule : l.engine.schedule ≡ l.fn.engine.schedule;
  meant : meanings script_means l.fn.engine.schedule l.engine.bodies ≡ meanings script_means l.fn.engine.schedule l.fn.engine.bodies;
  sound : IsFalse l.engine.spoiled;
  noted : HaveKept (g.M.Mode.width l.mode) l.fn.engine.schedule (meanings script_means l.fn.engine.schedule l.fn.engine.bodies) l.fn.engine.state l.done l.recorded l.engine.state l.text;
}

abbrev pub decreases-loop-done : goal.decreases-loop-done
decreases-loop-done g l = l.times - l.done
