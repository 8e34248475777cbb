use Rattle.std.proofs.Common.{◌≡◌, length, take}
use Rattle.model.specs.declarations.Declarations.{items_of}
use Rattle.system_set.specs.Pairs.{pairs_of}
use Rattle.schedule_builder.proofs.orders.hierarchy_from.Given as goal

abbrev pub invariant-loop-pair : goal.invariant-loop-pair
invariant-loop-pair l = l.hierarchy ≡ record { sets = length l.desc.sets; items = length (items_of l.desc); inside = pairs_of (take l.pair-index l.inside) }
