use Rattle.std.proofs.Common.{ℕ, ◌≡◌, ◌-◌, arith, subst}
use Rattle.cycle_search.specs.declared.order.Order.{Order}
use Rattle.system_set.specs.Edges.{HasEdgesTo}
use Rattle.system_set.proofs.EdgeLists.{no_edges_to, edges_to_more}
use Rattle.system_set.proofs.edges.push_edges.Goals as goal

pub loop-other-init : goal.loop-other-init
loop-other-init c = no_edges_to c.args.sets c.args.rows.now c.args.seconds.now c.args.system c.args.edges.now.items

pub loop-other-preserved : goal.loop-other-preserved
loop-other-preserved c =
    let edge : Order = record { first = c.args.system - c.args.sets; second = c.loop-other.other - c.args.sets } in
    edges_to_more c.args.sets c.args.rows.now c.args.seconds.now c.args.system c.loop-other.other edge c.is_led_to.result c.args.edges.now.items c.loop-other.edges.items c.push_if.new.edges.items
    (omega (arith, c.requires.system)) (omega arith) c.is_led_to.ensures c.loop-other.invariant c.in_ok-push_if.ensures

pub returns : goal.returns
returns c =
    let end : c.loop-other.other ≡ c.args.items = omega (arith, c.loop-other.auto.other-end c.requires.few) in
    subst (λ (k : ℕ). HasEdgesTo c.args.sets c.args.rows.now c.args.seconds.now c.args.system k c.args.edges.now.items c.loop-other.edges.items) end c.loop-other.invariant
