use Rattle.std.proofs.Common.{◌≡◌, ◌<◌, ◌^◌, ap₂, sym, ◌∷◌, [], ◌++◌, ◌∙◌, rules}
use Rattle.std.specs.Fmt.{decimal}
use Rattle.state_text.proofs.Passed.{passed}
use Rattle.state_text.proofs.WordsSpelled.{at_word}
use Rattle.state_text.proofs.reading.words.numbers_of.Goals as goal

pub returns-in_err-number_of : goal.returns-in_err-number_of
returns-in_err-number_of c ns fits e =
    let at = at_word decimal (λ n. n < 2 ^ 64) c.args.words.now c.loop-word.word-index _ ns c.loop-word-test.true fits e in
    passed (λ numbers. numbers.items ≡ ns) _ _ c.from_residual-in_err-number_of.ensures.1 (c.in_err-number_of.ensures at.0 at.1 at.2)

pub loop-word-preserved : goal.loop-word-preserved
loop-word-preserved c = record {
  read = λ ns fits e.
      let at = at_word decimal (λ n. n < 2 ^ 64) c.args.words.now c.loop-word.word-index _ ns c.loop-word-test.true fits e in
      c.push_reserved.ensures.items ∙ ap₂ (λ xs x. xs ++ x ∷ []) (c.loop-word.invariant.read ns fits e) (c.in_ok-number_of.ensures at.0 at.1 at.2) ∙ sym at.3;
  count = search rules;
  room = search rules;
}
