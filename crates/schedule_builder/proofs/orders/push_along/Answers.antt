use Rattle.std.proofs.Common.{refl, arith}
use Rattle.system_set.specs.Pairs.{pairs_of}
use Rattle.schedule_builder.proofs.Lookups.{along_none, along_more, along_all}
use Rattle.schedule_builder.proofs.orders.push_along.Goals as goal

pub loop-name-init : goal.loop-name-init
loop-name-init c = along_none c.args.desc.now (pairs_of c.args.orders.now.items) (pairs_of c.args.orders.now.items) c.items-names.result.now refl

pub loop-name-preserved : goal.loop-name-preserved
loop-name-preserved c =
    along_more c.args.desc.now (pairs_of c.args.orders.now.items) c.items-names.result.now c.loop-name.name-index c.name-item.result c.loop-name.previous (pairs_of c.loop-name.orders.items) (pairs_of c.push_link.new.orders.items) c.place_of-place.result
    (omega arith) c.name-item.is c.loop-name.invariant c.place_of-place.ensures c.in_ok-push_link.ensures

pub returns : goal.returns
returns c =
    along_all c.args.desc.now (pairs_of c.args.orders.now.items) c.items-names.result.now c.loop-name.name-index c.loop-name.previous (pairs_of c.loop-name.orders.items) c.args.chain.now.items (omega arith) c.items-names.ensures c.loop-name.invariant
