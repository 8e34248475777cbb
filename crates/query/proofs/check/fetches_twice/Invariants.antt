-- Some kind is fetched twice in the terms just where it is in what is left.
use Rattle.std.proofs.Common.{◌≡◌, map, length}
use Rattle.model.specs.access.QueryFaults.{fetches_twice}
use Rattle.query.specs.Term.{term_of}
use Rattle.query.proofs.check.fetches_twice.Given as goal

abbrev pub invariant-loop-term : goal.invariant-loop-term
invariant-loop-term l = fetches_twice (map term_of l.terms) ≡ fetches_twice (map term_of l.rest)

abbrev pub decreases-loop-term : goal.decreases-loop-term
decreases-loop-term l = length l.rest
