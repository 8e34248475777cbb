use Rattle.std.proofs.Common.{◌≡◌, take}
use Rattle.findings.proofs.diverging.first_step.Given as goal

-- the steps so far are the same
abbrev pub invariant-loop-place : goal.invariant-loop-place
invariant-loop-place l = take l.place l.one ≡ take l.place l.other
