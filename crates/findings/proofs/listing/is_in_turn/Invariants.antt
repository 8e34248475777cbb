use Rattle.std.proofs.Common.{◌≡◌, drop}
use Rattle.findings.specs.Witness.{is_in_turn}
use Rattle.findings.proofs.listing.is_in_turn.Given as goal

-- the steps that are left say what all say
abbrev pub invariant-loop-step : goal.invariant-loop-step
invariant-loop-step l = is_in_turn l.turn.racer l.turn.system l.turn.swapped (drop l.step-index l.steps) ≡ is_in_turn l.turn.racer l.turn.system l.turn.swapped l.steps
