-- The others are looked at in turn.
use Rattle.access_set.proofs.Beside.{beside_found, none_beside_met, none_beside_self, none_beside}
use Rattle.access_set.proofs.self_conflict.meets_beside.Goals.{else-number-other-via-then-number-other+else-meets, else-number-other-via-else-number-other}
use Rattle.access_set.proofs.self_conflict.meets_beside.Goals as goal

pub returns-then-meets : goal.returns-then-meets
returns-then-meets c =
    beside_found c.args.footprints.now c.args.number c.loop-other.other c.index-footprints-number.result c.index-footprints-other.result c.requires c.loop-other-test.true
    c.if-number-other.true c.index-footprints-number.is c.index-footprints-other.is c.if-meets.ensures

pub loop-other-preserved : goal.loop-other-preserved
loop-other-preserved c = elim c.else-number-other.branch [
  | else-number-other-via-then-number-other+else-meets w ↦
      none_beside_met c.args.footprints.now c.args.number c.loop-other.other w.index-footprints-number.result w.index-footprints-other.result w.meets.result c.requires c.loop-other-test.true
      w.index-footprints-number.is w.index-footprints-other.is w.meets.ensures w.if-meets.false c.loop-other.invariant
  | else-number-other-via-else-number-other w ↦ none_beside_self c.args.footprints.now c.args.number c.loop-other.other w.if-number-other.false c.loop-other.invariant
]

pub returns : goal.returns
returns c = none_beside c.args.footprints.now c.args.number c.loop-other.other c.loop-other-test.false c.loop-other.invariant
