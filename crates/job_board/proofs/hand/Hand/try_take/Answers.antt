use Rattle.std.proofs.Common.{◌∙◌, ◌++◌, refl}
use Rattle.job_board.specs.Ends.{hand_view}
use Rattle.job_board.proofs.Contents.{missed_next, reads_then}
use Rattle.job_board.proofs.Hands.{taken_after}
use Rattle.job_board.proofs.hand.Hand.try_take.Goals as goal

pub loop-slot-preserved : goal.loop-slot-preserved
loop-slot-preserved g c = let old = c.loop-slot.invariant in let new = c.in_default.ensures.taken in (
  (old.0.0 ++ new.0, reads_then _ (hand_view c.loop-slot.self) (hand_view c.try_slot.new.self) old.0.0 new.0 old.0.1 new.1, missed_next c.loop-slot.slot old.0.0 new.0 old.0.2 new.2),
  c.in_default.ensures.slots ∙ old.1,
)

pub returns-in-Some-clause-taken : goal.returns-in-Some-clause-taken
returns-in-Some-clause-taken g c = let old = c.loop-slot.invariant in let t = c.in-Some.ensures.taken in (
  _,
  c.loop-slot.slot,
  taken_after (hand_view c.args.self.now) (hand_view c.loop-slot.self) (hand_view c.try_slot.new.self) old.0.0 _ c.in-Some.taken.0 c.loop-slot.slot c.in-Some.taken.1 old.0.1 t.0,
  t.1,
  (old.0.0, old.0.2, refl),
)
