use Rattle.std.proofs.Common.{refl, arith}
use Rattle.body.proofs.TurnRows.{every-turn, one-turn, more-turn}
use Rattle.body.proofs.turns.in_turn.Goals as goal

pub returns-in-Some-clause-turn : goal.returns-in-Some-clause-turn
returns-in-Some-clause-turn c = every-turn c.args.rows.now c.in-Some._archetype c.args.row c.args.most c.in-Some.ensures c.requires.within

pub loop-count-init : goal.loop-count-init
loop-count-init c = record { some = omega arith; within = (let l = c.requires.some in omega arith); turn = one-turn c.args.rows.now c.args.row }

pub loop-count-preserved : goal.loop-count-preserved
loop-count-preserved c =
    let i = c.loop-count.invariant in
    let l = c.requires.within in
    let m = c.loop-count-test.true in
    let behind = c.if-not-is_behind.ensures in
    record {
      some = omega arith;
      within = omega arith;
      turn = more-turn c.args.rows.now c.args.row c.loop-count.count c.at-first.result c.at-next.result i.turn (omega arith) c.at-first.ensures c.at-next.ensures (behind.archetype refl) (behind.place refl);
    }
