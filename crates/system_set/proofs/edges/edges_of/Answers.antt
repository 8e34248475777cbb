use Rattle.std.proofs.Common.{ℕ, Bool, List, arith, sym, subst}
use Rattle.cycle_search.specs.declared.order.Order.{Order}
use Rattle.system_set.specs.Pairs.{pairs_of, hierarchy_of}
use Rattle.system_set.specs.Edges.{HasEdgesFrom, HasEdgesTo, AreMarked, AreMarkedSeconds}
use Rattle.system_set.proofs.Ordered.{reached_set}
use Rattle.system_set.proofs.EdgeLists.{no_edges_from, edges_from_more, edges_told, seconds_numbers}
use Rattle.system_set.proofs.edges.edges_of.Goals as goal

pub loop-system-init : goal.loop-system-init
loop-system-init c =
    subst (λ (edges : List Order). HasEdgesFrom c.args.sets c.args.items c.in_ok-rows.rows.items (pairs_of c.args.orders.now) c.args.sets edges) (sym c.new-edges.ensures.items)
    (no_edges_from c.args.sets c.args.items c.in_ok-rows.rows.items (pairs_of c.args.orders.now))

pub loop-system-preserved : goal.loop-system-preserved
loop-system-preserved c =
    let rows : List (List Bool) = c.in_ok-rows.rows.items in
    let orders = pairs_of c.args.orders.now in
    let marks : List Bool = c.in_ok-marks.marks.items in
    let numbers : List ℕ = c.in_ok-seconds.seconds.items in
    let marked = subst (λ (rs : List (List Bool)). AreMarkedSeconds c.args.sets rs orders c.loop-system.system marks) c.as_slice.ensures.value c.in_ok-marks.ensures in
    let seconds = seconds_numbers c.args.sets rows orders c.loop-system.system marks numbers marked (subst (λ (ms : List Bool). AreMarked ms numbers) c.as_slice-in-loop-system.ensures.value c.in_ok-seconds.ensures) in
    let to = subst (λ (rs : List (List Bool)). HasEdgesTo c.args.sets rs numbers c.loop-system.system c.args.items c.loop-system.edges.items c.push_edges.new.edges.items) c.as_slice-in-loop-system-2.ensures.value
    (subst (λ (ns : List ℕ). HasEdgesTo c.args.sets c.as_slice-in-loop-system-2.result.now ns c.loop-system.system c.args.items c.loop-system.edges.items c.push_edges.new.edges.items) c.as_slice-in-loop-system-3.ensures.value c.in_ok-push_edges.ensures) in
    edges_from_more c.args.sets c.args.items rows orders c.loop-system.system numbers c.loop-system.edges.items c.push_edges.new.edges.items seconds c.loop-system.invariant to

pub returns : goal.returns
returns c =
    let h = hierarchy_of c.args.sets c.args.items c.args.pairs.now in
    let few = c.requires.placed.few in
    let end = c.loop-system.auto.system-end few in
    edges_told h c.in_ok-rows.rows.items (pairs_of c.args.orders.now) c.loop-system.system c.loop-system.edges.items (omega (arith, end)) c.in_ok-rows.ensures
    (λ n holder reaches. reached_set c.args.sets c.args.items c.args.pairs.now c.requires.placed reaches.0 n holder reaches.1) c.loop-system.invariant
