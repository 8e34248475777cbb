use Rattle.std.proofs.Common.{◌≡◌, ◌≢◌, ◌∙◌, Bool, MatchBool, subst}
use Rattle.job_board.specs.Ends.{hand_view, hand_slots}
use Rattle.worker_pool.proofs.Tickets.{saw_closed}
use Rattle.worker_pool.proofs.standing.take.Goals as goal

pub returns-then-look_closed-clause-none : goal.returns-then-look_closed-clause-none
returns-then-look_closed-clause-none g c = λ _.
    let seen = c.look_closed.ensures.seen in
    saw_closed (hand_view c.try_take.new.self) (hand_view c.look_closed.new.self) (hand_slots c.try_take.new.self) (hand_slots c.args.hand.now) seen.0 seen.1 (c.in_default.ensures.slots ∙ c.loop.invariant)
    (subst (λ (b : Bool). MatchBool b (seen.0 ≡ 1) (seen.0 ≢ 1)) c.if-look_closed.true seen.2)
