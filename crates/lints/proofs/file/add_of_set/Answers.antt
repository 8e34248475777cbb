use Rattle.std.proofs.Common.{ℕ, ◌∙◌, ◌==◌, List, ap, length}
use Rattle.lints.specs.Collected.{Tested}
use Rattle.lints.specs.Lints.{IsOfSet}
use Rattle.lints.specs.declared.lint.Lint.TheVariants as lint
use Rattle.lints.proofs.Growing.{adds_at, adds_tested}
use Rattle.lints.proofs.file.add_of_set.Goals as goal

pub returns : goal.returns
unfolding IsOfSet
returns c = adds_at (λ numbers. Tested (length numbers.items == 0) (lint.NoMembers c.args.number)) c.args.members.now c.args.number c.index-members-number.result _ _ c.requires c.index-members-number.is
    (adds_tested _ _ _ _ _ (c.is_empty-is.ensures ∙ ap (λ (numbers : List ℕ). length numbers == 0) c.as_slice.ensures.value) c.in_ok-add_where.ensures)
