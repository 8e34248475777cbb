use Rattle.std.proofs.Common.{◌≡◌, take, flat_map}
use Rattle.cycle_search.specs.declared.order.Order.{Order}
use Rattle.schedule_builder.specs.Asked.{other_in}
use Rattle.schedule_builder.proofs.ascending_list.Listing.paired.Given as goal

abbrev pub invariant-loop-pair : goal.invariant-loop-pair
invariant-loop-pair l = l.numbers.items ≡ flat_map (λ (p : Order). other_in p l.system) (take l.pair-index l.pairs)
