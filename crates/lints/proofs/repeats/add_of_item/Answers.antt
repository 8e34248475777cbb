use Rattle.std.proofs.Common.{◌∙◌, ap}
use Rattle.lints.specs.Repeats.{IsOfItem, is_twice}
use Rattle.lints.proofs.Growing.{adds_both, adds_known}
use Rattle.lints.proofs.repeats.add_of_item.Goals as goal

pub returns : goal.returns
unfolding IsOfItem
returns c =
    adds_both _ _ _ _ _ (adds_known _ _ _ _ _ _ (c.is_twice-inside.ensures ∙ ap is_twice c.as_slice.ensures.value) c.said.ensures c.in_ok-add_where.ensures)
    (adds_both _ _ _ _ _ (adds_known _ _ _ _ _ _ (c.is_twice-before.ensures ∙ ap is_twice c.as_slice-2.ensures.value) c.said-2.ensures c.in_ok-add_where-2.ensures)
    (adds_both _ _ _ _ _ (adds_known _ _ _ _ _ _ (c.is_twice-after.ensures ∙ ap is_twice c.as_slice-3.ensures.value) c.said-3.ensures c.in_ok-add_where-3.ensures)
    (adds_both _ _ _ _ _ (adds_known _ _ _ _ _ _ (c.is_twice-before_ignore.ensures ∙ ap is_twice c.as_slice-4.ensures.value) c.said-4.ensures c.in_ok-add_where-4.ensures)
    (adds_both _ _ _ _ _ (adds_known _ _ _ _ _ _ (c.is_twice-after_ignore.ensures ∙ ap is_twice c.as_slice-5.ensures.value) c.said-5.ensures c.in_ok-add_where-5.ensures)
    (adds_known _ _ _ _ _ _ (c.is_twice-ambiguous.ensures ∙ ap is_twice c.as_slice-6.ensures.value) c.said-6.ensures c.in_ok-add_where-6.ensures)))))
