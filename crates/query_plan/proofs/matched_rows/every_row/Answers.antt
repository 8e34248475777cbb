use Rattle.std.proofs.Common.{◌<◌, length, arith}
use Rattle.query_plan.proofs.EveryRow.{every_taken, every_done}
use Rattle.query_plan.proofs.matched_rows.every_row.Goals as goal

pub loop-place-preserved : goal.loop-place-preserved
loop-place-preserved c =
    let below : c.loop-place.place < length c.args.entities.now = omega (arith, c.in-Ok.ensures) in
    rw (c.in_ok-push.ensures.items) (every_taken c.args.archetype c.loop-place.place c.args.entities.now _ c.loop-place.rows.items _ below c.loop-place.invariant)

pub returns : goal.returns
returns c = every_done c.args.archetype c.loop-place.place c.args.entities.now c.loop-place.rows.items _ (omega (arith, c.in-Ok.ensures)) c.loop-place.invariant
