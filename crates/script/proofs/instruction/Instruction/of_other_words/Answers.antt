-- The words are those that the patterns name.
use Rattle.std.proofs.Common.{sym, subst, arith}
use Rattle.parsing.specs.Reads.{Reads}
use Rattle.script.specs.Instruction.{AreInstruction}
use Rattle.script.proofs.Spelled.{of_two, of_three, of_four, first_is_other, too_few}
use Rattle.script.proofs.instruction.Instruction.of_other_words.Goals as goal

pub compare-requires : goal.compare-requires
compare-requires c = first_is_other (λ word. word.now) c.args.words.now _ (omega (arith, c.in-len4.len_at_least)) c.requires

pub of_three-requires : goal.of_three-requires
of_three-requires c = first_is_other (λ word. word.now) c.args.words.now _ c.in-len3.len_at_least c.requires

pub returns-in-len4 : goal.returns-in-len4
returns-in-len4 c = subst (λ ws. Reads AreInstruction ws c.compare.result) (sym (of_four (λ word. word.now) c.args.words.now _ c.in-len4.len_at_least c.in-len4.len_below)) c.compare.ensures

pub returns-in-len3 : goal.returns-in-len3
returns-in-len3 c = subst (λ ws. Reads AreInstruction ws c.of_three.result) (sym (of_three (λ word. word.now) c.args.words.now _ c.in-len3.len_at_least c.in-len3.len_below)) c.of_three.ensures

pub returns-in-len2 : goal.returns-in-len2
returns-in-len2 c = subst (λ ws. Reads AreInstruction ws c.of_two.result) (sym (of_two (λ word. word.now) c.args.words.now _ c.in-len2.len_at_least c.in-len2.len_below)) c.of_two.ensures

pub returns-in_default : goal.returns-in_default
returns-in_default c = too_few (λ word. word.now) c.args.words.now c.in_default.len_below
