use Rattle.std.proofs.Common.{ℕ, arith, Option, get_or, subst}
use Rattle.cycle_search.specs.declared.order.Order.{Order}
use Rattle.model.specs.declarations.Hierarchy.{Hierarchy}
use Rattle.system_set.specs.Pairs.{hierarchy_of}
use Rattle.system_set.specs.Ordered.{TellsShared}
use Rattle.system_set.proofs.Ordered.{sharing_more, sharing_some}
use Rattle.system_set.proofs.sharing.first_sharing.Goals as goal

pub returns-in-Some : goal.returns-in-Some
returns-in-Some c =
    let h : Hierarchy = hierarchy_of c.args.sets c.args.items c.args.pairs.now in
    let d : Order = record { first = 0; second = 0 } in
    let o : Order = get_or c.args.orders.now c.loop-order.order-index d in
    sharing_some h c.args.orders.now c.loop-order.order-index d c.in-Some.system (omega arith) c.loop-order.invariant
    (subst (λ (x : Option ℕ). TellsShared h o x) c.in-Some.is c.in_ok-system.ensures)

pub loop-order-preserved : goal.loop-order-preserved
loop-order-preserved c =
    let h : Hierarchy = hierarchy_of c.args.sets c.args.items c.args.pairs.now in
    let d : Order = record { first = 0; second = 0 } in
    let o : Order = get_or c.args.orders.now c.loop-order.order-index d in
    sharing_more h c.args.orders.now c.loop-order.order-index d (omega arith) c.loop-order.invariant
    (subst (λ (x : Option ℕ). TellsShared h o x) c.in_default.is c.in_ok-system.ensures)
