use Rattle.streams.proofs.Parts.{part_taken}
use Rattle.streams.proofs.writing.write_bytes.Goals as goal

-- the part that was taken joins the front
pub loop-rest-preserved : goal.loop-rest-preserved
loop-rest-preserved g c =
    part_taken _ _ _ _ c.loop-rest.invariant.0 _ c.in_ok-count.count c.loop-rest.invariant.1 c.loop-rest.invariant.2 c.in_ok-count.ensures.taken
