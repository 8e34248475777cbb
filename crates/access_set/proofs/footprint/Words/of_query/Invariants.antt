-- What the terms so far and those left say is what all say.
use Rattle.model.specs.access.Query.{touched, written}
use Rattle.model.specs.access.QueryFaults.{required, excluded}
use Rattle.access_set.proofs.TermWords.{IsSaid}
use Rattle.access_set.proofs.footprint.Words.of_query.Given as goal

abbrev pub invariant-loop-term : goal.invariant-loop-term
invariant-loop-term l = record {
  touched : IsSaid touched l.term-items l.term-index l.words.touched;
  written : IsSaid written l.term-items l.term-index l.words.written;
  required : IsSaid required l.term-items l.term-index l.words.required;
  excluded : IsSaid excluded l.term-items l.term-index l.words.excluded;
}
