use Rattle.std.proofs.Common.{◌∙◌, List, ap, sym}
use Rattle.kinds.specs.declared.res.Res.{Res}
use Rattle.lints.specs.Lints.{is_res_twice}
use Rattle.lints.proofs.Growing.{adds_both, adds_tested}
use Rattle.lints.proofs.system.add_of_res.Goals as goal

pub returns : goal.returns
returns c =
    let twice = c.is_res_twice-is_twice.ensures ∙ ap (λ (list : List Res). is_res_twice list c.args.res) (c.as_slice-3.ensures.value ∙ sym c.as_slice.ensures.value) in
    rw (← c.as_slice-blocks.ensures.value, ← c.as_slice.ensures.value, ← c.as_slice-2.ensures.value)
    (adds_both _ _ _ _ _ (adds_tested _ _ _ _ _ c.is_unread_res-is_unread.ensures c.in_ok-add_where.ensures)
    (adds_both _ _ _ _ _ (adds_tested _ _ _ _ _ c.is_unused_res_mut-is_unused.ensures c.in_ok-add_where-2.ensures) (adds_tested _ _ _ _ _ twice c.in_ok-add_where-3.ensures)))
