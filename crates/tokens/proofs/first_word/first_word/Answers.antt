-- Behind the first spaces, the word ends at the next one.
use Rattle.std.proofs.Common.{subst, sym, ap₂}
use Rattle.parsing.specs.Reads.{SpellsOnly}
use Rattle.tokens.specs.FirstWord.{IsFirstWord}
use Rattle.tokens.proofs.FirstWords.{word_before, word_alone, word_nowhere}
use Rattle.tokens.proofs.first_word.first_word.Goals as goal

pub returns-in-Some : goal.returns-in-Some
returns-in-Some c =
    subst (λ parts. SpellsOnly IsFirstWord c.args.text.now parts) (ap₂ (λ x y. (x, y)) (sym c.split_at.ensures.front) (sym c.split_at.ensures.back))
    (word_before c.args.text.now c.trim_start_matches-word.result.now c.trim_start_matches-word.ensures.matches c.in-Some.end c.in-Some.ensures.cases)

pub returns-in-None : goal.returns-in-None
returns-in-None c = word_nowhere c.args.text.now c.trim_start_matches-word.result.now c.trim_start_matches-word.ensures.matches c.if-is_empty.ensures

pub returns-in-None-2 : goal.returns-in-None-2
returns-in-None-2 c = word_alone c.args.text.now c.trim_start_matches-word.result.now c.trim_start_matches-word.ensures.matches c.in-None-2.ensures.cases c.if-is_empty.ensures
