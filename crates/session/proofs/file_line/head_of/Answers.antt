use Rattle.std.proofs.Common.{ℕ, List, ◌++◌, codes, refl, ap, sym, ◌∙◌}
use Rattle.std.proofs.lemmas.Bool.{false≢true}
use Rattle.session.proofs.NamedFiles.{no_head, no_digits}
use Rattle.session.proofs.file_line.head_of.Goals as goal

pub returns-in_err-head : goal.returns-in_err-head
returns-in_err-head c = rw c.from_residual.ensures (no_head c.args.text.now _ c.in_err-head.ensures.cases refl)

pub returns : goal.returns
returns c =
    no_digits c.args.text.now _ c.in_ok-head.ensures.cases (c.in_ok-head.head, c.in_ok-head.rest) c.in_ok-digits.digits.now refl
    (c.in_ok-digits.ensures.cases.1.1 ∙ ap (λ (t : List ℕ). codes "file " ++ t) (sym c.in_ok-digits.ensures.cases.2))
    (λ are. false≢true (sym c.if-are_digits.false ∙ c.are_digits.ensures.1 are))
