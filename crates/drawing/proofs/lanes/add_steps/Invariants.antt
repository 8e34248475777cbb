use Rattle.std.proofs.Common.{◌≡◌, ◌++◌, [], drop}
use Rattle.drawing.specs.Lanes.{steps_shapes}
use Rattle.drawing.proofs.lanes.add_steps.Given as goal

-- the steps that are left, drawn behind those that are there, make the drawing of all
abbrev pub invariant-loop-step : goal.invariant-loop-step
invariant-loop-step l = l.shapes.items ++ steps_shapes l.top l.bottom l.lanes.items l.at (drop l.step-index l.steps) ≡ l.fn.shapes.items ++ steps_shapes l.top l.bottom [] 0 l.steps
