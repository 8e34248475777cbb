-- There are as many words as slices that hold them.
use Rattle.std.proofs.Common.{ℕ, ◌≤◌, sym, subst}
use Rattle.std.proofs.lemmas.List.{length-map}
use Rattle.script.proofs.Sources.{many-read, none-read}
use Rattle.script.proofs.operands.Values.many.Goals as goal

pub returns : goal.returns
returns c = many-read _ c.in_ok-read.field-0 (subst (λ (n : ℕ). 3 ≤ n) (sym (length-map c.args.words.now (λ word. word.now))) c.requires) c.in_ok-read.ensures

pub returns-in_err-read : goal.returns-in_err-read
returns-in_err-read c = rw c.from_residual.ensures (none-read _ (subst (λ (n : ℕ). 3 ≤ n) (sym (length-map c.args.words.now (λ word. word.now))) c.requires) c.in_err-read.ensures)
