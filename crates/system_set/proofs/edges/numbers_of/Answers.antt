use Rattle.std.proofs.Common.{refl}
use Rattle.system_set.proofs.EdgeLists.{marked_more}
use Rattle.system_set.proofs.edges.numbers_of.Goals as goal

pub loop-item-preserved : goal.loop-item-preserved
loop-item-preserved c =
    marked_more c.args.marks.now c.loop-item.item _ c.loop-item.numbers.items c.push_number.new.numbers.items refl c.loop-item.invariant c.in_ok-push_number.ensures
