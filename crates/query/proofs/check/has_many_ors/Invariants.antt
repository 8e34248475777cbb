-- The `or` terms so far are counted.
use Rattle.std.proofs.Common.{◌≡◌, ◌≤◌, map, filter, take, length}
use Rattle.model.specs.access.QueryFaults.{is_or}
use Rattle.query.specs.Term.{term_of}
use Rattle.query.proofs.check.has_many_ors.Given as goal

abbrev pub invariant-loop-term : goal.invariant-loop-term
invariant-loop-term l = record {
  counted : l.count ≡ length (filter is_or (map term_of (take l.term-index l.terms)));
  low : l.count ≤ l.term-index;
}
