use Rattle.std.proofs.Common.{Option, subst}
use Rattle.model.specs.declarations.Declarations.{hierarchy_of, declared_orders}
use Rattle.model.specs.declarations.Edges.{HasNoLoop, IsCrossing}
use Rattle.cycle_search.specs.declared.order.Order.{Order}
use Rattle.system_set.specs.Pairs.{pairs_of}
use Rattle.system_set.specs.Ordered.{TellsCrossing}
use Rattle.schedule_builder.proofs.Orderings.{crossing_known, told_of}
use Rattle.schedule_builder.proofs.Exits.{told_memory}
use Rattle.schedule_builder.proofs.builder.check_crossings.Goals as goal

pub name_at-requires : goal.name_at-requires
name_at-requires c =
    let d = c.args.desc.now in
    let p : Order = c.in-Some.crossing in
    let told = subst (λ (o : Option Order). TellsCrossing c.args.hierarchy.now (pairs_of c.args.orders.now) o) c.in-Some.is c.in_ok-crossing.ensures in
    (crossing_known d p.first p.second c.requires.whole (told_of (λ h ps. IsCrossing h ps p.first p.second) c.args.hierarchy.now (hierarchy_of d) (pairs_of c.args.orders.now) (declared_orders d) c.requires.declared c.requires.orders.ordered told)).0

pub name_at-requires-in-Some : goal.name_at-requires-in-Some
name_at-requires-in-Some c =
    let d = c.args.desc.now in
    let p : Order = c.in-Some.crossing in
    let told = subst (λ (o : Option Order). TellsCrossing c.args.hierarchy.now (pairs_of c.args.orders.now) o) c.in-Some.is c.in_ok-crossing.ensures in
    (crossing_known d p.first p.second c.requires.whole (told_of (λ h ps. IsCrossing h ps p.first p.second) c.args.hierarchy.now (hierarchy_of d) (pairs_of c.args.orders.now) (declared_orders d) c.requires.declared c.requires.orders.ordered told)).1

pub returns-in_ok-set-in-Some-clause-refused : goal.returns-in_ok-set-in-Some-clause-refused
returns-in_ok-set-in-Some-clause-refused c =
    let d = c.args.desc.now in
    let p : Order = c.in-Some.crossing in
    let told = subst (λ (o : Option Order). TellsCrossing c.args.hierarchy.now (pairs_of c.args.orders.now) o) c.in-Some.is c.in_ok-crossing.ensures in
    let here = told_of (λ h ps. IsCrossing h ps p.first p.second) c.args.hierarchy.now (hierarchy_of d) (pairs_of c.args.orders.now) (declared_orders d) c.requires.declared c.requires.orders.ordered told in
    (c.requires.nested, subst (λ ps. HasNoLoop ps) c.requires.orders.ordered c.requires.no_loop, (p.first, p.second, here, c.in_ok-item-in-Some.ensures, c.in_ok-set-in-Some.ensures))

pub returns-in_err-crossing-clause-refused : goal.returns-in_err-crossing-clause-refused
returns-in_err-crossing-clause-refused c = told_memory c.from_residual.result c.args.desc.now c.from_residual.ensures.1

pub returns-in_err-item-in-Some-clause-refused : goal.returns-in_err-item-in-Some-clause-refused
returns-in_err-item-in-Some-clause-refused c = told_memory c.from_residual-in_err-item-in-Some.result c.args.desc.now c.from_residual-in_err-item-in-Some.ensures.1

pub returns-in_err-set-in-Some-clause-refused : goal.returns-in_err-set-in-Some-clause-refused
returns-in_err-set-in-Some-clause-refused c = told_memory c.from_residual-in_err-set-in-Some.result c.args.desc.now c.from_residual-in_err-set-in-Some.ensures.1
