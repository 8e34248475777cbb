use Rattle.std.proofs.Common.{arith, refl}
use Rattle.cycle_search.specs.declared.order.Order.{Order}
use Rattle.schedule_builder.specs.Asked.{other_in}
use Rattle.schedule_builder.proofs.Askings.{others_of, flat_next}
use Rattle.schedule_builder.proofs.ascending_list.Listing.paired.Goals as goal

pub returns : goal.returns
returns c = others_of c.args.pairs.now c.loop-pair.pair-index c.args.system c.loop-pair.numbers.items (omega arith) c.loop-pair.invariant

pub loop-pair-preserved : goal.loop-pair-preserved
loop-pair-preserved c =
    flat_next (λ (p : Order). other_in p c.args.system) c.args.pairs.now c.loop-pair.pair-index (record { first = 0; second = 0 }) c.loop-pair.numbers.items c.push_other.new.numbers.items _
    c.loop-pair-test.true c.loop-pair.invariant c.in_ok-push_other.ensures refl
