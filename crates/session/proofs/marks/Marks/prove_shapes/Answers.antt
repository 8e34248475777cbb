use Rattle.std.proofs.Common.{ℕ, List, subst}
use Rattle.std.specs.List.{AllByRecursion}
use Rattle.body.specs.Steps.{HasShape}
use Rattle.model.specs.state.State.{State}
use Rattle.session.specs.Marks.{mark_of}
use Rattle.session.specs.declared.marks.Mark.{Mark}
use Rattle.session.proofs.Taken.{all_more, all_seen, all_whole}
use Rattle.session.proofs.marks.Marks.prove_shapes.Goals as goal

pub loop-mark-init : goal.loop-mark-init
loop-mark-init c = tt

pub loop-mark-preserved : goal.loop-mark-preserved
loop-mark-preserved c = all_more (λ (mark : Mark). HasShape mark.state) c.deref-mark-items.result.now c.loop-mark.mark-index c.mark-item.result
    c.loop-mark-test.true c.loop-mark.invariant (subst (λ (mark : Mark). HasShape mark.state) c.mark-item.is c.prove_shape.ensures)

pub returns : goal.returns
returns c =
    let P : List ℕ × State → Type 0 = λ mark. HasShape mark.1 in
    subst (AllByRecursion P) c.self.view_is
    (all_seen P mark_of c.self.inside.list.items
    (subst (AllByRecursion (λ (mark : Mark). HasShape mark.state)) c.deref-mark-items.ensures.value
    (all_whole (λ (mark : Mark). HasShape mark.state) c.deref-mark-items.result.now c.loop-mark.mark-index c.loop-mark-test.false c.loop-mark.invariant)))
