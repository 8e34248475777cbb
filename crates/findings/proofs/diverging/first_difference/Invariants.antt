use Rattle.std.proofs.Common.{◌≡◌, ◌<◌, ℕ}
use Rattle.findings.specs.Parting.{recorded_steps}
use Rattle.findings.proofs.diverging.first_difference.Given as goal

-- the runs so far have the same steps
abbrev pub invariant-loop-run : goal.invariant-loop-run
invariant-loop-run l = (n : ℕ) → n < l.run → recorded_steps l.one n ≡ recorded_steps l.other n
