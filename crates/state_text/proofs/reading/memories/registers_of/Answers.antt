use Rattle.std.proofs.Common.{◌≡◌, ◌<◌, ◌∷◌, [], ◌++◌, FitsSigned, w64, to_z, of_z, length, ap₂, sym, ◌∙◌, rules, arith}
use Rattle.std.proofs.lemmas.Int.{to_z-of_z}
use Rattle.std.proofs.lemmas.List.{take_more_set}
use Rattle.std.specs.Fmt.{signed_decimal}
use Rattle.state_text.proofs.Passed.{passed}
use Rattle.state_text.proofs.WordsSpelled.{at_word}
use Rattle.state_text.proofs.reading.memories.registers_of.Goals as goal

pub returns-in_err-registers-clause-all : goal.returns-in_err-registers-clause-all
returns-in_err-registers-clause-all c zs fits e =
    let low : c.loop-at.at < length c.args.words.now = omega (arith, c.requires, c.loop-at-test.true) in
    let at = at_word signed_decimal (FitsSigned w64) c.args.words.now c.loop-at.at _ zs low fits e in
    passed (λ registers. registers ≡ zs) _ _ c.from_residual.ensures.1 (c.in_err-registers.ensures at.0 at.1 at.2)

pub loop-at-preserved : goal.loop-at-preserved
loop-at-preserved c =
    let same : to_z w64 (of_z w64 c.in_ok-registers.field-0) ≡ c.in_ok-registers.field-0 = search to_z-of_z in
    let many = c.loop-at.invariant.number in
    record {
      number = search rules;
      read = λ zs fits e.
          let low : c.loop-at.at < length c.args.words.now = omega (arith, c.requires, c.loop-at-test.true) in
          let at = at_word signed_decimal (FitsSigned w64) c.args.words.now c.loop-at.at _ zs low fits e in
          take_more_set c.loop-at.registers c.loop-at.at _ (omega (arith, many, c.loop-at-test.true))
          ∙ ap₂ (λ xs x. xs ++ x ∷ []) (c.loop-at.invariant.read zs fits e) (same ∙ c.in_ok-registers.ensures at.0 at.1 at.2) ∙ sym at.3;
    }
