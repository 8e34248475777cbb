use Rattle.std.proofs.Common.{[], ◌∷◌, subst, sym}
use Rattle.std.specs.List.{AllByRecursion}
use Rattle.model.proofs.lists.Each.{each-append}
use Rattle.body.specs.KeptPlans.{AreOver}
use Rattle.body.proofs.plans.reach.Goals as goal

pub returns-then-is_err-clause-over : goal.returns-then-is_err-clause-over
returns-then-is_err-clause-over c = λ forms old. subst (AllByRecursion (λ plans. AreOver forms plans.items)) (sym c.reserve.ensures.items) (c.loop-alloc.invariant forms old)

pub loop-alloc-preserved : goal.loop-alloc-preserved
loop-alloc-preserved c = λ forms old.
    let before = subst (AllByRecursion (λ plans. AreOver forms plans.items)) (sym c.reserve.ensures.items) (c.loop-alloc.invariant forms old) in
    subst (AllByRecursion (λ plans. AreOver forms plans.items)) (sym c.push_reserved.ensures.items)
    (each-append (λ plans. AreOver forms plans.items) c.reserve.new.self.items (c.new.result ∷ []) before (subst (AreOver forms) (sym c.new.ensures.items) tt, tt))
