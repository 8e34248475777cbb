use Rattle.system_set.proofs.EdgeLists.{row_told}
use Rattle.system_set.proofs.edges.row_of.Goals as goal

pub returns : goal.returns
returns c = row_told c.args.sets c.args.items c.args.pairs.now c.args.set c.in_ok-marks.marks.items c.in_ok-marks.ensures.sound c.in_ok-marks.ensures.whole
