use Rattle.std.proofs.Common.{◌≡◌, ℕ, [], ◌∷◌, length, vec_capacity}
use Rattle.std.specs.Arc.{arc_value}
use mathlib.Core.Option.{some}
use lib.ListN.{get_elem?}
use Rattle.job_board.specs.Views.{newcomer, having_read}
use Rattle.job_board.specs.Ends.{hand_view, hand_slots, hand_table}
use Rattle.job_board.proofs.board.Board.new.Given as goal

abbrev pub invariant-loop-made : goal.invariant-loop-made
invariant-loop-made g l = (length l.all.items ≡ l.made) × (vec_capacity l.all ≡ l.hands)
    × ((at : ℕ) (h : _) → get_elem? l.all.items at ≡ some h → (hand_table h ≡ (arc_value l.board).shared.table_id) × (hand_slots h ≡ l.slots) × ((found : ℕ) × (hand_view h ≡ having_read newcomer ((l.slots, found) ∷ []))))
