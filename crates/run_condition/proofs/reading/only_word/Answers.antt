-- The words are counted.
use Rattle.run_condition.proofs.Leaves.{word_only, word_none}
use Rattle.run_condition.proofs.reading.only_word.Goals as goal

pub returns-in-Some : goal.returns-in-Some
returns-in-Some c = word_only c.args.text.now _ _ c.in_ok-words.ensures (rw c.as_slice.ensures.value at c.in-Some.ensures)

pub returns : goal.returns
returns c = word_none c.args.text.now _ c.in_ok-words.ensures (rw c.as_slice.ensures.value at c.in-None.ensures)
