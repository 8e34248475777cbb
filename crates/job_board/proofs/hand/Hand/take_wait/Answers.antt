use Rattle.std.proofs.Common.{◌≡◌, ◌≢◌, ◌∙◌, ◌++◌, ◌∷◌, [], Bool, MatchBool, subst}
use Rattle.job_board.specs.Ends.{hand_view, hand_slots}
use Rattle.job_board.proofs.Contents.{read_closed, reads_then}
use Rattle.job_board.proofs.Hands.{taken_after}
use Rattle.job_board.proofs.hand.Hand.take_wait.Goals as goal

pub returns-then-look_closed-clause-taken : goal.returns-then-look_closed-clause-taken
returns-then-look_closed-clause-taken g c = let old = c.loop.invariant in let new = c.in_default.ensures.taken in let seen = c.look_closed.ensures.seen in
    read_closed (hand_view c.args.self.now) (hand_view c.loop.self) (hand_view c.try_take.new.self) (hand_view c.look_closed.new.self) old.0.0 new.0 (hand_slots c.try_take.new.self) (hand_slots c.args.self.now) seen.0
    old.0.1 new.1 seen.1 (c.in_default.ensures.slots ∙ old.1) (subst (λ (b : Bool). MatchBool b (seen.0 ≡ 1) (seen.0 ≢ 1)) c.if-look_closed.true seen.2)

pub loop-preserved : goal.loop-preserved
loop-preserved g c = let old = c.loop.invariant in let new = c.in_default.ensures.taken in let seen = c.look_closed.ensures.seen in (
  (
    (old.0.0 ++ new.0) ++ (hand_slots c.try_take.new.self, seen.0) ∷ [],
    reads_then _ (hand_view c.try_take.new.self) (hand_view c.look_closed.new.self) (old.0.0 ++ new.0) ((hand_slots c.try_take.new.self, seen.0) ∷ [])
        (reads_then _ (hand_view c.loop.self) (hand_view c.try_take.new.self) old.0.0 new.0 old.0.1 new.1) seen.1,
  ),
  c.look_closed.ensures.slots ∙ c.in_default.ensures.slots ∙ old.1,
)

pub returns-in-Some-try_take-clause-taken : goal.returns-in-Some-try_take-clause-taken
returns-in-Some-try_take-clause-taken g c = let old = c.loop.invariant in let t = c.in-Some-try_take.ensures.taken in (
  old.0.0 ++ t.0,
  t.1,
  taken_after (hand_view c.args.self.now) (hand_view c.loop.self) (hand_view c.try_take.new.self) old.0.0 t.0 c.in-Some-try_take.taken.0 t.1 c.in-Some-try_take.taken.1 old.0.1 t.2,
  t.3,
)
