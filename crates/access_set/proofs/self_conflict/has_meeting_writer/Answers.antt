-- Those that write are looked at in turn.
use Rattle.access_set.proofs.Beside.{writer_found, no_writer_beside, no_writer_still, no_writer}
use Rattle.access_set.proofs.self_conflict.has_meeting_writer.Goals.{else-is_writing-via-then-is_writing+else-meets_beside, else-is_writing-via-else-is_writing}
use Rattle.access_set.proofs.self_conflict.has_meeting_writer.Goals as goal

pub returns-then-meets_beside : goal.returns-then-meets_beside
returns-then-meets_beside c =
    writer_found c.args.footprints.now c.loop-number.number c.index-footprints-number.result c.loop-number-test.true c.index-footprints-number.is c.if-is_writing.ensures c.if-meets_beside.ensures

pub loop-number-preserved : goal.loop-number-preserved
loop-number-preserved c = elim c.else-is_writing.branch [
  | else-is_writing-via-then-is_writing+else-meets_beside w ↦ no_writer_beside c.args.footprints.now c.loop-number.number w.if-meets_beside.ensures c.loop-number.invariant
  | else-is_writing-via-else-is_writing w ↦
      no_writer_still c.args.footprints.now c.loop-number.number c.index-footprints-number.result c.is_writing.result c.loop-number-test.true c.index-footprints-number.is
      c.is_writing.ensures w.if-is_writing.false c.loop-number.invariant
]

pub returns : goal.returns
returns c = no_writer c.args.footprints.now c.loop-number.number c.loop-number-test.false c.loop-number.invariant
