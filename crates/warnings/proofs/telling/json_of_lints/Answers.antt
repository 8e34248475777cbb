use Rattle.std.proofs.Common.{ℕ, ◌+◌, List, [], ◌∷◌, ◌++◌, take, ap, sym, subst, ◌∙◌, string_bytes}
use Rattle.std.proofs.lemmas.List.{take_more}
use Rattle.lints.specs.declared.lint.Lint.{Lint}
use Rattle.warnings.specs.Lines.{AreLines}
use Rattle.warnings.proofs.Growing.{one_more}
use Rattle.warnings.proofs.telling.json_of_lints.Goals as goal

-- one line more
pub loop-lint-preserved : goal.loop-lint-preserved
loop-lint-preserved c =
    let i = c.loop-lint.lint-index in
    let grown = one_more (take i c.args.lints.now) _ (string_bytes c.loop-lint.text) (string_bytes c.in_ok-line.line) c.loop-lint.invariant c.in_ok-line.ensures in
    let same = c.in_ok-push_str-2.ensures.bytes ∙ ap (λ (t : List ℕ). t ++ 10 ∷ []) (c.in_ok-push_str.ensures.bytes ∙ ap (λ (word : List ℕ). string_bytes c.loop-lint.text ++ word) c.as_str.ensures.value) in
    subst (AreLines (take (i + 1) c.args.lints.now)) (sym same)
    (subst (λ (some : List Lint). AreLines some (string_bytes c.loop-lint.text ++ string_bytes c.in_ok-line.line ++ 10 ∷ [])) (sym (take_more c.args.lints.now i _ c.loop-lint-test.true)) grown)
