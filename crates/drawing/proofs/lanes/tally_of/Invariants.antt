use Rattle.std.proofs.Common.{◌≡◌, drop}
use Rattle.drawing.specs.Lanes.{tally_from, tally_of}
use Rattle.drawing.proofs.lanes.tally_of.Given as goal

-- the steps that are left lead to the tally of all
abbrev pub invariant-loop-step : goal.invariant-loop-step
invariant-loop-step l = tally_from l.tally (drop l.step-index l.steps) ≡ tally_of l.steps
