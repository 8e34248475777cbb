use Rattle.std.proofs.Common.{◌≡◌, FitsSigned, w64, to_z, of_z, ap₂, ap, sym, ◌∷◌, [], ◌∙◌}
use Rattle.std.proofs.lemmas.Int.{to_z-of_z}
use Rattle.std.specs.Fmt.{signed_decimal}
use Rattle.kinds.specs.Value.{value_words}
use Rattle.state_text.proofs.Passed.{passed}
use Rattle.state_text.proofs.WordsSpelled.{one, two}
use Rattle.state_text.proofs.reading.components.value_of.Goals as goal

pub returns-in_err-integer_of-in-len1-clause-all : goal.returns-in_err-integer_of-in-len1-clause-all
returns-in_err-integer_of-in-len1-clause-all c zs fits e =
    let at = one signed_decimal (FitsSigned w64) c.args.words.now _ zs c.in-len1.len_at_least c.in-len1.len_below fits e in
    passed (λ value. value_words value ≡ zs) _ _ c.from_residual.ensures.1 (c.in_err-integer_of-in-len1.ensures at.0 at.1 at.2)

pub returns-in_err-integer_of-in-len2-clause-all : goal.returns-in_err-integer_of-in-len2-clause-all
returns-in_err-integer_of-in-len2-clause-all c zs fits e =
    let at = two signed_decimal (FitsSigned w64) c.args.words.now _ zs c.in-len2.len_at_least c.in-len2.len_below fits e in
    passed (λ value. value_words value ≡ zs) _ _ c.from_residual-in_err-integer_of-in-len2.ensures.1 (c.in_err-integer_of-in-len2.ensures at.0 at.2 at.4)

pub returns-in_err-integer_of-in-len2-2-clause-all : goal.returns-in_err-integer_of-in-len2-2-clause-all
returns-in_err-integer_of-in-len2-2-clause-all c zs fits e =
    let at = two signed_decimal (FitsSigned w64) c.args.words.now _ zs c.in-len2.len_at_least c.in-len2.len_below fits e in
    passed (λ value. value_words value ≡ zs) _ _ c.from_residual-in_err-integer_of-in-len2-2.ensures.1 (c.in_err-integer_of-in-len2-2.ensures at.1 at.3 at.5)

pub returns-in_ok-integer_of-in-len1-clause-all : goal.returns-in_ok-integer_of-in-len1-clause-all
returns-in_ok-integer_of-in-len1-clause-all c zs fits e =
    let same : to_z w64 (of_z w64 c.in_ok-integer_of-in-len1.field-0) ≡ c.in_ok-integer_of-in-len1.field-0 = search to_z-of_z in
    let at = one signed_decimal (FitsSigned w64) c.args.words.now _ zs c.in-len1.len_at_least c.in-len1.len_below fits e in
    c.of-in-len1.ensures.words ∙ ap (λ x. x ∷ []) (same ∙ c.in_ok-integer_of-in-len1.ensures at.0 at.1 at.2) ∙ sym at.3

pub returns-in_ok-integer_of-in-len2-2-clause-all : goal.returns-in_ok-integer_of-in-len2-2-clause-all
returns-in_ok-integer_of-in-len2-2-clause-all c zs fits e =
    let first : to_z w64 (of_z w64 c.in_ok-integer_of-in-len2.field-0) ≡ c.in_ok-integer_of-in-len2.field-0 = search to_z-of_z in
    let second : to_z w64 (of_z w64 c.in_ok-integer_of-in-len2-2.field-0) ≡ c.in_ok-integer_of-in-len2-2.field-0 = search to_z-of_z in
    let at = two signed_decimal (FitsSigned w64) c.args.words.now _ zs c.in-len2.len_at_least c.in-len2.len_below fits e in
    c.of-in-len2.ensures.words ∙ ap₂ (λ x y. x ∷ y ∷ []) (first ∙ c.in_ok-integer_of-in-len2.ensures at.0 at.2 at.4) (second ∙ c.in_ok-integer_of-in-len2-2.ensures at.1 at.3 at.5) ∙ sym at.6
