use Rattle.std.proofs.Common.{◌≡◌, ◌-◌, ℕ}
use mathlib.Core.Option.{some}
use lib.ListN.{get_elem?}
use Rattle.job_board.specs.Ends.{hand_view, hand_slots}
use Rattle.job_board.proofs.hand.Hand.raise.Given as goal

abbrev pub invariant-loop-turned : goal.invariant-loop-turned
invariant-loop-turned g l = ((slot : ℕ) × (get_elem? l.self.held.items (l.place - l.turned) ≡ some (l.number, slot))) × (hand_view l.self ≡ hand_view l.fn.self) × (hand_slots l.self ≡ hand_slots l.fn.self)
