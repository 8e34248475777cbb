use Rattle.std.proofs.Common.{ℕ, ◌≡◌, List}
use Rattle.job_board.specs.Views.{having_read}
use Rattle.job_board.specs.Ends.{hand_view, hand_slots}
use Rattle.job_board.proofs.hand.Hand.take_wait.Given as goal

abbrev pub invariant-loop : goal.invariant-loop
invariant-loop g l = ((gained : List (ℕ × ℕ)) × (hand_view l.self ≡ having_read (hand_view l.fn.self) gained)) × (hand_slots l.self ≡ hand_slots l.fn.self)
