use Rattle.std.proofs.Common.{refl, arith}
use Rattle.body.proofs.ListedRows.{one-listed, more-listed}
use Rattle.body.proofs.turns.listed_in_turn.Goals as goal

pub loop-count-init : goal.loop-count-init
loop-count-init c = record { some = omega arith; within = (let l = c.requires.some in omega arith); turn = one-listed c.args.rows.now c.args.listed.now }

pub loop-count-preserved : goal.loop-count-preserved
loop-count-preserved c =
    let i = c.loop-count.invariant in
    let m = c.loop-count-test.true in
    let behind = c.if-not-is_behind.ensures in
    record {
      some = omega arith;
      within = omega arith;
      turn = more-listed c.args.rows.now c.args.listed.now c.loop-count.count c.at-first.result c.at-next.result i.turn (c.requires.within 0 c.requires.some) (c.requires.within c.loop-count.count m) c.at-first.ensures c.at-next.ensures
          (behind.archetype refl) (behind.place refl);
    }
