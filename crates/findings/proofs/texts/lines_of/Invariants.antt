use Rattle.std.proofs.Common.{◌≡◌}
use Rattle.findings.proofs.texts.lines_of.Given as goal

-- the lines so far are kept
abbrev pub invariant-loop-line : goal.invariant-loop-line
invariant-loop-line l = l.found.items ≡ l.yielded
