use Rattle.std.proofs.Common.{◌<◌, length, add-one, zero-add, append_assoc, arith}
use Rattle.state_lines.proofs.Lines.{slot_lines-take-suc}
use Rattle.state_lines.proofs.world.push_entities.Goals as goal

-- the line of the index stands after those of the indices before it
pub loop-index-preserved : goal.loop-index-preserved
loop-index-preserved c =
    let here : c.loop-index.index < length c.args.world.now.state.slots = omega arith in
    let lines = slot_lines-take-suc 0 c.args.world.now.state.slots c.loop-index.index here in
    rw (c.in_ok-push_slot.ensures, c.loop-index.invariant, add-one, lines) (simp (append_assoc, zero-add))
