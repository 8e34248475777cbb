-- The text spells what its words do.
use Rattle.parsing.proofs.Grammars.{only_by_words, none_by_words}
use Rattle.query.specs.Grammar.{AreTerm}
use Rattle.query.proofs.term.Term.read.Goals as goal

pub returns-in-Some : goal.returns-in-Some
returns-in-Some c = only_by_words AreTerm _ _ _ c.in_ok-words.ensures (rw c.as_slice.ensures.value at c.in-Some.ensures)

pub returns : goal.returns
returns c = none_by_words AreTerm _ _ c.in_ok-words.ensures (rw c.as_slice.ensures.value at c.in-None.ensures)
