-- The text spells what its words do.
use Rattle.parsing.proofs.Grammars.{only_by_words, none_by_words}
use Rattle.script.specs.Instruction.{AreInstruction}
use Rattle.script.proofs.instruction.Instruction.read.Goals as goal

pub returns-in-Some : goal.returns-in-Some
returns-in-Some c = only_by_words AreInstruction _ _ _ c.in_ok-words.ensures (rw c.as_slice.ensures.value at c.in-Some.ensures)

pub returns : goal.returns
returns c = none_by_words AreInstruction _ _ c.in_ok-words.ensures (rw c.as_slice.ensures.value at c.in-None.ensures)
