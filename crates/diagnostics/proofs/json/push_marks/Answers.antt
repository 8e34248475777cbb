use Rattle.std.proofs.Common.{◌≤◌, subst, sym}
use Rattle.serde_json.specs.Data.{items_depth}
use Rattle.serde_json.specs.View.{items_view}
use Rattle.diagnostics.proofs.Depths.{one_more}
use Rattle.diagnostics.proofs.json.push_marks.Goals as goal

pub loop-labelled-preserved : goal.loop-labelled-preserved
loop-labelled-preserved c =
    subst (λ items. items_depth (items_view items) ≤ 1) (sym c.in_ok-push.ensures.items) (one_more 1 c.loop-labelled.list.items c.in_ok-mark.mark c.loop-labelled.invariant c.in_ok-mark.ensures)
