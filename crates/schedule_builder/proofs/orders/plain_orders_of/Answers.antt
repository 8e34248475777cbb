use Rattle.std.proofs.Common.{refl, ◌∙◌, arith}
use Rattle.model.specs.declarations.Declarations.{items_of, plain_orders_in, plain_orders_along, from_each}
use Rattle.system_set.specs.Pairs.{pairs_of}
use Rattle.schedule_builder.proofs.Lookups.{from_more, from_each-all, flat_more, flat_all, flat_none}
use Rattle.schedule_builder.proofs.orders.plain_orders_of.Goals as goal

pub loop-number-preserved : goal.loop-number-preserved
loop-number-preserved c =
    let d = c.args.desc.now in
    from_more (plain_orders_in d) (items_of d) c.loop-number.number (pairs_of c.loop-number.orders.items) (pairs_of c.push_plain.new.orders.items) _ (omega (arith, c.count-number-end.ensures)) c.loop-number.invariant c.in_ok-push_plain.ensures refl

pub loop-chain-init : goal.loop-chain-init
loop-chain-init c =
    let d = c.args.desc.now in
    flat_none (from_each (plain_orders_in d) 0 (items_of d)) (pairs_of c.loop-number.orders.items) (c.loop-number.invariant ∙ from_each-all (plain_orders_in d) (items_of d) c.loop-number.number (omega (arith, c.count-number-end.ensures)))

pub loop-chain-preserved : goal.loop-chain-preserved
loop-chain-preserved c =
    let d = c.args.desc.now in
    flat_more (plain_orders_along d) c.chains-chains.result.now c.loop-chain.chain-index c.chain-item.result (from_each (plain_orders_in d) 0 (items_of d)) (pairs_of c.loop-chain.orders.items) (pairs_of c.push_plain_along.new.orders.items)
    (omega arith) c.chain-item.is c.loop-chain.invariant c.in_ok-push_plain_along.ensures

pub returns : goal.returns
returns c =
    let d = c.args.desc.now in
    flat_all (plain_orders_along d) c.chains-chains.result.now d.chains c.loop-chain.chain-index (from_each (plain_orders_in d) 0 (items_of d)) (pairs_of c.loop-chain.orders.items) (omega arith) c.chains-chains.ensures c.loop-chain.invariant
