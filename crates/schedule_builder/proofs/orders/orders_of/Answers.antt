use Rattle.std.proofs.Common.{refl, ◌∙◌, arith}
use Rattle.model.specs.declarations.Declarations.{items_of, orders_in, orders_along, from_each}
use Rattle.system_set.specs.Pairs.{pairs_of}
use Rattle.schedule_builder.proofs.Lookups.{from_more, from_each-all, flat_more, flat_all, flat_none}
use Rattle.schedule_builder.proofs.orders.orders_of.Goals as goal

pub loop-number-preserved : goal.loop-number-preserved
loop-number-preserved c =
    let d = c.args.desc.now in
    from_more (orders_in d) (items_of d) c.loop-number.number (pairs_of c.loop-number.orders.items) (pairs_of c.push_orders.new.orders.items) _ (omega (arith, c.count-number-end.ensures)) c.loop-number.invariant c.in_ok-push_orders.ensures refl

pub loop-chain-init : goal.loop-chain-init
loop-chain-init c =
    let d = c.args.desc.now in
    flat_none (from_each (orders_in d) 0 (items_of d)) (pairs_of c.loop-number.orders.items) (c.loop-number.invariant ∙ from_each-all (orders_in d) (items_of d) c.loop-number.number (omega (arith, c.count-number-end.ensures)))

pub loop-chain-preserved : goal.loop-chain-preserved
loop-chain-preserved c =
    let d = c.args.desc.now in
    flat_more (orders_along d) c.chains-chains.result.now c.loop-chain.chain-index c.chain-item.result (from_each (orders_in d) 0 (items_of d)) (pairs_of c.loop-chain.orders.items) (pairs_of c.push_along.new.orders.items)
    (omega arith) c.chain-item.is c.loop-chain.invariant c.in_ok-push_along.ensures

pub returns : goal.returns
returns c =
    let d = c.args.desc.now in
    flat_all (orders_along d) c.chains-chains.result.now d.chains c.loop-chain.chain-index (from_each (orders_in d) 0 (items_of d)) (pairs_of c.loop-chain.orders.items) (omega arith) c.chains-chains.ensures c.loop-chain.invariant
