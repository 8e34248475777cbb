use Rattle.std.proofs.Common.{ℕ, ◌≡◌, List}
use Rattle.job_board.specs.Views.{having_read, MissedAll}
use Rattle.job_board.specs.Ends.{hand_view, hand_slots}
use Rattle.job_board.proofs.hand.Hand.try_take.Given as goal

abbrev pub invariant-loop-slot : goal.invariant-loop-slot
invariant-loop-slot g l = ((gained : List (ℕ × ℕ)) × (hand_view l.self ≡ having_read (hand_view l.fn.self) gained) × MissedAll l.slot gained) × (hand_slots l.self ≡ hand_slots l.fn.self)
