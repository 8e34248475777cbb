use Rattle.std.proofs.Common.{◌≡◌, ℕ, List, Option, get_or, arith, rules}
use Rattle.std.proofs.lemmas.List.{get_or_default}
use Rattle.cycle_search.specs.declared.order.Order.{Order}
use Rattle.cycle_search.specs.Cycles.{height_of}
use Rattle.cycle_search.proofs.Falls.{points_set, points_skip, points_none, points_all, none_from_test, not_none_from_test}
use Rattle.cycle_search.proofs.ranks.open_seconds.Goals.{then-is_none, else-is_none}
use Rattle.cycle_search.proofs.ranks.open_seconds.Goals as goal

pub loop-order-preserved : goal.loop-order-preserved
loop-order-preserved c =
    let orders : List Order = c.args.orders.now in
    let ranks : List (Option ℕ) = c.args.ranks.now in
    let i : ℕ = c.loop-order.order-index in
    let o : Order = get_or orders i (record { first = 0; second = 0 }) in
    let read : o ≡ get_or orders i o = get_or_default orders i (record { first = 0; second = 0 }) o (omega arith) in
    elim c.if-is_none.branch [
      | then-is_none w ↦
          rw w.next-is (points_set orders ranks c.loop-order.next.items i o (omega arith) read (c.requires i (record { first = 0; second = 0 }) (omega arith)).first c.loop-order.invariant
          (none_from_test (height_of ranks o.second) c.is_none.result c.is_none.ensures w.if-is_none.true))
      | else-is_none w ↦
          rw w.next-is (points_skip orders ranks c.loop-order.next.items i o (omega arith) read c.loop-order.invariant
          (not_none_from_test (height_of ranks o.second) c.is_none.result c.is_none.ensures w.if-is_none.false))
    ]

pub loop-order-init : goal.loop-order-init
loop-order-init c = points_none c.args.orders.now c.args.ranks.now c.in_ok-next.next.items (c.in_ok-next.ensures.items_if_clones_equal (λ y h. search rules))

pub returns : goal.returns
returns c = points_all c.args.orders.now c.args.ranks.now c.loop-order.next.items c.loop-order.order-index c.loop-order.auto.order-index-end c.loop-order-test.false c.loop-order.invariant
