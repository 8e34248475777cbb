use Rattle.std.proofs.Common.{length}
use Rattle.model.specs.declarations.Declarations.{items_of, hierarchy_of}
use Rattle.cycle_search.specs.declared.order.Order.{Order}
use Rattle.schedule_builder.proofs.Orderings.{put_more, put_all}
use Rattle.schedule_builder.proofs.orders.hierarchy_from.Goals as goal

pub loop-pair-preserved : goal.loop-pair-preserved
loop-pair-preserved c =
    let d : Order = record { first = 0; second = 0 } in
    put_more (length c.args.desc.now.sets) (length (items_of c.args.desc.now)) c.args.inside.now c.loop-pair.pair-index d c.loop-pair.hierarchy c.put.new.self c.loop-pair-test.true c.loop-pair.invariant c.in_ok-put.ensures.ok

pub returns : goal.returns
returns c =
    put_all (length c.args.desc.now.sets) (length (items_of c.args.desc.now)) c.args.inside.now c.loop-pair.pair-index c.loop-pair.hierarchy (hierarchy_of c.args.desc.now).inside c.loop-pair-test.false c.loop-pair.invariant c.requires.declared
