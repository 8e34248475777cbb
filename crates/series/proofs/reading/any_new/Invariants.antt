use Rattle.std.proofs.Common.{◌≡◌, drop, map}
use Rattle.std.specs.List.{list_any}
use Rattle.model.specs.access.Query.{is_filter}
use Rattle.query.specs.Term.{term_of}
use Rattle.series.proofs.reading.any_new.Given as goal

-- none so far asks for what is new
abbrev pub invariant-loop-term : goal.invariant-loop-term
invariant-loop-term l = list_any is_filter (map term_of l.terms) ≡ list_any is_filter (map term_of (drop l.term-index l.terms))
