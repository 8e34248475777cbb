use Rattle.std.proofs.Common.{◌≡◌, FitsSigned, w64, to_z, of_z, ap₂, sym, ◌∷◌, [], ◌++◌, ◌∙◌, rules}
use Rattle.std.specs.Fmt.{signed_decimal}
use Rattle.std.proofs.lemmas.Int.{to_z-of_z}
use Rattle.state_text.proofs.Passed.{passed}
use Rattle.state_text.proofs.WordsSpelled.{at_word}
use Rattle.state_text.proofs.reading.words.integers_of.Goals as goal

pub returns-in_err-integer_of : goal.returns-in_err-integer_of
returns-in_err-integer_of c zs fits e =
    let at = at_word signed_decimal (FitsSigned w64) c.args.words.now c.loop-word.word-index _ zs c.loop-word-test.true fits e in
    passed (λ integers. integers.items ≡ zs) _ _ c.from_residual-in_err-integer_of.ensures.1 (c.in_err-integer_of.ensures at.0 at.1 at.2)

pub loop-word-preserved : goal.loop-word-preserved
loop-word-preserved c = record {
  read = λ zs fits e.
      let same : to_z w64 (of_z w64 c.in_ok-integer_of.field-0) ≡ c.in_ok-integer_of.field-0 = search to_z-of_z in
      let at = at_word signed_decimal (FitsSigned w64) c.args.words.now c.loop-word.word-index _ zs c.loop-word-test.true fits e in
      c.push_reserved.ensures.items ∙ ap₂ (λ xs x. xs ++ x ∷ []) (c.loop-word.invariant.read zs fits e) (same ∙ c.in_ok-integer_of.ensures at.0 at.1 at.2) ∙ sym at.3;
  count = search rules;
  room = search rules;
}
