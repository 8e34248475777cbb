use Rattle.std.proofs.Common.{length}
use Rattle.trace_checker.proofs.SetTexts.{AreSoFar}
use Rattle.trace_checker.proofs.sets.sets_of.Given as goal

-- the text is that of the numbers so far and of what follows
abbrev pub invariant-loop-rest : goal.invariant-loop-rest
invariant-loop-rest l = AreSoFar l.bytes l.sets l.least l.rest

abbrev pub decreases-loop-rest : goal.decreases-loop-rest
decreases-loop-rest l = length l.rest
