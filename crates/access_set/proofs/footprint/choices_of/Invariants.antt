-- The list has the alternatives of the `or` terms so far.
use Rattle.std.proofs.Common.{◌≡◌, map, take}
use Rattle.model.specs.access.Conflict.{choices}
use Rattle.query.specs.Term.{term_of}
use Rattle.query.specs.Alternative.{alternatives_of}
use Rattle.access_set.proofs.footprint.choices_of.Given as goal

abbrev pub invariant-loop-term : goal.invariant-loop-term
invariant-loop-term l = map alternatives_of l.list.items ≡ choices (map term_of (take l.term-index l.terms))
