-- The fields are as many as their words.
use Rattle.std.proofs.Common.{◌≡◌, sym, ap, ap₂, subst, map, ◌∷◌, [], ◌∙◌, arith}
use Rattle.std.proofs.lemmas.Int.{to_z-of_z}
use Rattle.std.proofs.lemmas.List.{length-map}
use Rattle.kinds.specs.Kind.{kind_number}
use Rattle.kinds.specs.Value.{value_words}
use Rattle.parsing.specs.Reads.{SpellsNone, SpellsOnly}
use Rattle.requests.specs.Grammar.{AreFields}
use Rattle.requests.proofs.FieldTexts.{of_one, of_two, fields_missing, only_field, only_fields, no_field}
use Rattle.requests.proofs.components.component_of.Goals as goal

pub returns-then-words-width-clause-fields : goal.returns-then-words-width-clause-fields
returns-then-words-width-clause-fields c = fields_missing (kind_number c.args.kind) (map (λ word. word.now) c.args.words.now) (λ e. c.if-words-width.true (sym (length-map c.args.words.now (λ word. word.now)) ∙ (e ∙ sym c.width.ensures)))

pub returns-in_err-read_integer-in-len1-clause-fields : goal.returns-in_err-read_integer-in-len1-clause-fields
returns-in_err-read_integer-in-len1-clause-fields c =
    rw c.from_residual.ensures (subst (λ ws. SpellsNone (AreFields (kind_number c.args.kind)) ws) (sym (of_one (λ word. word.now) c.args.words.now _ c.in-len1.len_at_least c.in-len1.len_below))
    (no_field (kind_number c.args.kind) _ 0 (omega arith) c.in_err-read_integer-in-len1.ensures))

pub returns-in_err-read_integer-in-len2-clause-fields : goal.returns-in_err-read_integer-in-len2-clause-fields
returns-in_err-read_integer-in-len2-clause-fields c =
    rw c.from_residual-in_err-read_integer-in-len2.ensures (subst (λ ws. SpellsNone (AreFields (kind_number c.args.kind)) ws) (sym (of_two (λ word. word.now) c.args.words.now _ c.in-len2.len_at_least c.in-len2.len_below))
    (no_field (kind_number c.args.kind) _ 0 (omega arith) c.in_err-read_integer-in-len2.ensures))

pub returns-in_err-read_integer-in-len2-2-clause-fields : goal.returns-in_err-read_integer-in-len2-2-clause-fields
returns-in_err-read_integer-in-len2-2-clause-fields c =
    rw c.from_residual-in_err-read_integer-in-len2-2.ensures (subst (λ ws. SpellsNone (AreFields (kind_number c.args.kind)) ws) (sym (of_two (λ word. word.now) c.args.words.now _ c.in-len2.len_at_least c.in-len2.len_below))
    (no_field (kind_number c.args.kind) _ 1 (omega arith) c.in_err-read_integer-in-len2-2.ensures))

pub returns-in_ok-read_integer-in-len1-clause-fields : goal.returns-in_ok-read_integer-in-len1-clause-fields
returns-in_ok-read_integer-in-len1-clause-fields c =
    let words : value_words c.of-in-len1.result ≡ c.in_ok-read_integer-in-len1.field-0 ∷ [] = c.of-in-len1.ensures.words ∙ ap (λ x. x ∷ []) (search to_z-of_z) in
    rw words (subst (λ ws. SpellsOnly (AreFields (kind_number c.args.kind)) ws (c.in_ok-read_integer-in-len1.field-0 ∷ [])) (sym (of_one (λ word. word.now) c.args.words.now _ c.in-len1.len_at_least c.in-len1.len_below))
    (only_field (kind_number c.args.kind) _ c.in_ok-read_integer-in-len1.field-0 (omega (arith, c.if-words-width.false, c.width.ensures, c.in-len1.len_at_least, c.in-len1.len_below)) c.in_ok-read_integer-in-len1.ensures))

pub returns-in_ok-read_integer-in-len2-2-clause-fields : goal.returns-in_ok-read_integer-in-len2-2-clause-fields
returns-in_ok-read_integer-in-len2-2-clause-fields c =
    let words : value_words c.of-in-len2.result ≡ c.in_ok-read_integer-in-len2.field-0 ∷ c.in_ok-read_integer-in-len2-2.field-0 ∷ [] =
    c.of-in-len2.ensures.words ∙ ap₂ (λ x y. x ∷ y ∷ []) (search to_z-of_z) (search to_z-of_z) in
    rw words (subst (λ ws. SpellsOnly (AreFields (kind_number c.args.kind)) ws (c.in_ok-read_integer-in-len2.field-0 ∷ c.in_ok-read_integer-in-len2-2.field-0 ∷ [])) (sym (of_two (λ word. word.now) c.args.words.now _ c.in-len2.len_at_least c.in-len2.len_below))
    (only_fields (kind_number c.args.kind) _ _ c.in_ok-read_integer-in-len2.field-0 c.in_ok-read_integer-in-len2-2.field-0 (omega (arith, c.if-words-width.false, c.width.ensures, c.in-len2.len_at_least, c.in-len2.len_below)) c.in_ok-read_integer-in-len2.ensures c.in_ok-read_integer-in-len2-2.ensures))
