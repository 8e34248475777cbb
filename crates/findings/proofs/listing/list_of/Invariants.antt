use Rattle.std.proofs.Common.{◌≡◌, None}
use Rattle.findings.proofs.listing.list_of.Given as goal

-- no kind sets are recorded
abbrev pub invariant-loop : goal.invariant-loop
invariant-loop l = l.trace.sets ≡ None
