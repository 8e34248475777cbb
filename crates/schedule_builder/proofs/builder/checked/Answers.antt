use Rattle.std.proofs.Common.{List, length, subst, sym, ap, ◌∙◌}
use Rattle.model.specs.declarations.Declarations.{items_of, declared_orders}
use Rattle.cycle_search.specs.declared.order.Order.{Order}
use Rattle.system_set.specs.Pairs.{pairs_of, ArePlaced}
use Rattle.schedule_builder.specs.Orders.{AreOrders}
use Rattle.schedule_builder.proofs.Lookups.{whole_of, sets_few}
use Rattle.schedule_builder.proofs.Orderings.{placed_of, between_of}
use Rattle.schedule_builder.proofs.Exits.{told, told_memory}
use Rattle.schedule_builder.proofs.builder.checked.Goals as goal

pub hierarchy_from-requires-clause-placed : goal.hierarchy_from-requires-clause-placed
hierarchy_from-requires-clause-placed c =
    let d = c.args.desc.now in
    let r = c.in_ok-resolved.resolved in
    subst (λ (xs : List Order). ArePlaced (length d.sets) (length (items_of d)) xs) (sym c.as_slice.ensures.value)
    (placed_of d r.inside.items r.orders.items r.plain.items r.silences.items (whole_of d c.in_ok-resolved.ensures.named.known) c.in_ok-resolved.ensures.declared (sets_few d))

pub hierarchy_from-requires-clause-declared : goal.hierarchy_from-requires-clause-declared
hierarchy_from-requires-clause-declared c = ap pairs_of c.as_slice.ensures.value ∙ c.in_ok-resolved.ensures.declared.held

pub check_hierarchy-requires-clause-whole : goal.check_hierarchy-requires-clause-whole
check_hierarchy-requires-clause-whole c = whole_of c.args.desc.now c.in_ok-resolved.ensures.named.known

pub check_orders-requires-clause-orders : goal.check_orders-requires-clause-orders
check_orders-requires-clause-orders c =
    let d = c.args.desc.now in
    let declared = c.in_ok-resolved.ensures.declared in
    subst (λ (xs : List Order). AreOrders d xs) (sym c.as_slice-2.ensures.value)
    (record {
      ordered = declared.ordered;
      between = between_of (length (items_of d)) c.in_ok-resolved.resolved.orders.items (declared_orders d) declared.ordered (whole_of d c.in_ok-resolved.ensures.named.known).ordered;
    })

pub check_orders-requires-clause-whole : goal.check_orders-requires-clause-whole
check_orders-requires-clause-whole c = whole_of c.args.desc.now c.in_ok-resolved.ensures.named.known

pub relations_of-requires-clause-whole : goal.relations_of-requires-clause-whole
relations_of-requires-clause-whole c = whole_of c.args.desc.now c.in_ok-resolved.ensures.named.known

pub returns-in_err-resolved-clause-refused : goal.returns-in_err-resolved-clause-refused
returns-in_err-resolved-clause-refused c = told c.from_residual.result c.args.desc.now c.in_err-resolved.field-0.0 c.from_residual.ensures.1 c.in_err-resolved.ensures.refused

pub returns-in_err-hierarchy-clause-refused : goal.returns-in_err-hierarchy-clause-refused
returns-in_err-hierarchy-clause-refused c = told_memory c.from_residual-in_err-hierarchy.result c.args.desc.now c.from_residual-in_err-hierarchy.ensures.1

pub returns-in_err-check_hierarchy-clause-refused : goal.returns-in_err-check_hierarchy-clause-refused
returns-in_err-check_hierarchy-clause-refused c = told c.from_residual-in_err-check_hierarchy.result c.args.desc.now c.in_err-check_hierarchy.field-0.0 c.from_residual-in_err-check_hierarchy.ensures.1 c.in_err-check_hierarchy.ensures.refused

pub returns-in_err-check_orders-clause-refused : goal.returns-in_err-check_orders-clause-refused
returns-in_err-check_orders-clause-refused c = told c.from_residual-in_err-check_orders.result c.args.desc.now c.in_err-check_orders.field-0.0 c.from_residual-in_err-check_orders.ensures.1 c.in_err-check_orders.ensures.refused

pub returns-in_err-check_systems-clause-refused : goal.returns-in_err-check_systems-clause-refused
returns-in_err-check_systems-clause-refused c = told c.from_residual-in_err-check_systems.result c.args.desc.now c.in_err-check_systems.field-0.0 c.from_residual-in_err-check_systems.ensures.1 c.in_err-check_systems.ensures.refused

pub returns-in_err-relations_of-clause-refused : goal.returns-in_err-relations_of-clause-refused
returns-in_err-relations_of-clause-refused c = told_memory c.from_residual-in_err-relations_of.result c.args.desc.now c.from_residual-in_err-relations_of.ensures.1
