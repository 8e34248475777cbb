-- The values are as many as the patterns name.
use Rattle.std.proofs.Common.{sym, subst}
use Rattle.parsing.specs.Reads.{Reads, SpellsOnly}
use Rattle.script.specs.declared.operands.Values.TheVariants.{Empty}
use Rattle.script.specs.Operands.{AreValues}
use Rattle.script.proofs.Spelled.{of_none, of_one, of_two, only_empty}
use Rattle.script.proofs.operands.Values.read.Goals as goal

pub returns-in-empty : goal.returns-in-empty
returns-in-empty c = subst (λ ws. SpellsOnly AreValues ws Empty) (sym (of_none (λ word. word.now) c.args.words.now c.in-empty.len_below)) (tt, only_empty)

pub returns-in-len1 : goal.returns-in-len1
returns-in-len1 c = subst (λ ws. Reads AreValues ws c.one.result) (sym (of_one (λ word. word.now) c.args.words.now _ c.in-len1.len_at_least c.in-len1.len_below)) c.one.ensures

pub returns-in-len2 : goal.returns-in-len2
returns-in-len2 c = subst (λ ws. Reads AreValues ws c.two.result) (sym (of_two (λ word. word.now) c.args.words.now _ c.in-len2.len_at_least c.in-len2.len_below)) c.two.ensures
