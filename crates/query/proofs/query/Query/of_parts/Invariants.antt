-- The parts so far spell the query so far.
use Rattle.std.proofs.Common.{map, take}
use Rattle.std.specs.List.{AllZip}
use Rattle.parsing.specs.Reads.{SpellsOnly, SpellsSeen}
use Rattle.query.specs.Term.{term_of}
use Rattle.query.specs.Grammar.{IsTerm}
use Rattle.query.proofs.query.Query.of_parts.Given as goal

abbrev pub invariant-loop-part : goal.invariant-loop-part
invariant-loop-part l = SpellsOnly (AllZip (SpellsSeen term_of IsTerm)) (map (λ part. part.now) (take l.part-index l.parts)) l.query
