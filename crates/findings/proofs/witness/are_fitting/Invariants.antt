use Rattle.std.proofs.Common.{◌≡◌, ◌<◌, ℕ, true}
use Rattle.program.specs.Setup.{fits_at}
use Rattle.findings.proofs.witness.are_fitting.Given as goal

-- the systems so far have scripts that fit
abbrev pub invariant-loop-system : goal.invariant-loop-system
invariant-loop-system l = (n : ℕ) → n < l.system → fits_at l.built l.bodies n ≡ true
