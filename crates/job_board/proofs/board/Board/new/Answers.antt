use Rattle.std.proofs.Common.{rules, ◌≡◌, ◌+◌, ◌∙◌, ◌∷◌, [], ⊎_elim, ℕ, List, sym, ap, subst, get_or, length, replicate, length-append}
use Rattle.std.proofs.lemmas.List.{length-replicate}
use Rattle.std.proofs.lemmas.Result.{IfOk-from_err}
use Rattle.std.specs.Arc.{arc_value}
use mathlib.Core.Option.{some}
use lib.ListN.{get_elem?}
use Rattle.job_board.specs.Views.{newcomer, having_read}
use Rattle.job_board.specs.Ends.{hand_view, hand_slots, hand_table}
use Rattle.job_board.proofs.Places.{at_end}
use Rattle.job_board.proofs.Opens.{starts, zeros_there}
use Rattle.job_board.proofs.board.Board.new.Goals as goal

pub vacant-requires : goal.vacant-requires
vacant-requires g c = let all : c.as_slice.result.now ≡ replicate c.in-Some.count 0 = c.as_slice.ensures.value ∙ c.in_ok-words.ensures.items_if_clones_equal (λ y h. h) in
    let count : c.in-Some.count ≡ c.args.slots + 1 = search rules in
    starts g.T.Task.answers _ c.args.slots (ap length all ∙ length-replicate c.in-Some.count 0 ∙ count) (λ k. subst (λ (l : List ℕ). get_or l k 0 ≡ 0) (sym all) (zeros_there c.in-Some.count k))

pub loop-made-preserved : goal.loop-made-preserved
loop-made-preserved g c = let inv = c.loop-made.invariant in let items = c.push_reserved.ensures.items in let hand = c.in_ok-hand.hand in let of = c.in_ok-hand.ensures in (
  ap length items ∙ length-append c.loop-made.all.items (hand ∷ []) ∙ ap (λ (z : ℕ). z + 1) inv.0,
  c.push_reserved.ensures.capacity ∙ inv.1,
  λ at h e. ⊎_elim (λ old. inv.2 at h old) (λ t. subst (λ z. (hand_table z ≡ (arc_value c.in_ok-board.board).shared.table_id) × (hand_slots z ≡ c.args.slots) × ((found : ℕ) × (hand_view z ≡ having_read newcomer ((c.args.slots, found) ∷ [])))) t.1
      (of.slots.1 ∙ ap (λ z. z.shared.table_id) c.in_ok-words-2.ensures, of.slots.0, of.view)) (at_end c.loop-made.all.items hand h at (subst (λ l. get_elem? l at ≡ some h) items e)),
)

pub returns-clause-lead : goal.returns-clause-lead
returns-clause-lead g c = let lead = c.in_ok-lead.ensures in (lead.slots.0, lead.view)

pub returns-clause-hands : goal.returns-clause-hands
returns-clause-hands g c = λ at h e. let old = c.loop-made.invariant.2 at h e in (old.0 ∙ sym c.in_ok-lead.ensures.slots.1, old.1, old.2)

pub returns-in_err-words : goal.returns-in_err-words
returns-in_err-words g c =
    let failed = c.from_residual.ensures.0 in
    record { lead = IfOk-from_err c.from_residual.result _ failed; count = IfOk-from_err c.from_residual.result _ failed; hands = IfOk-from_err c.from_residual.result _ failed }

pub returns-in_err-table : goal.returns-in_err-table
returns-in_err-table g c =
    let failed = c.from_residual-in_err-table.ensures.0 in
    record { lead = IfOk-from_err c.from_residual-in_err-table.result _ failed; count = IfOk-from_err c.from_residual-in_err-table.result _ failed; hands = IfOk-from_err c.from_residual-in_err-table.result _ failed }

pub returns-in_err-board : goal.returns-in_err-board
returns-in_err-board g c =
    let failed = c.from_residual-in_err-board.ensures.0 in
    record { lead = IfOk-from_err c.from_residual-in_err-board.result _ failed; count = IfOk-from_err c.from_residual-in_err-board.result _ failed; hands = IfOk-from_err c.from_residual-in_err-board.result _ failed }

pub returns-in_err-bells : goal.returns-in_err-bells
returns-in_err-bells g c =
    let failed = c.from_residual-in_err-bells.ensures.0 in
    record { lead = IfOk-from_err c.from_residual-in_err-bells.result _ failed; count = IfOk-from_err c.from_residual-in_err-bells.result _ failed; hands = IfOk-from_err c.from_residual-in_err-bells.result _ failed }

pub returns-in_err-all : goal.returns-in_err-all
returns-in_err-all g c =
    let failed = c.from_residual-in_err-all.ensures.0 in
    record { lead = IfOk-from_err c.from_residual-in_err-all.result _ failed; count = IfOk-from_err c.from_residual-in_err-all.result _ failed; hands = IfOk-from_err c.from_residual-in_err-all.result _ failed }

pub returns-in_err-words-2 : goal.returns-in_err-words-2
returns-in_err-words-2 g c =
    let failed = c.from_residual-in_err-words-2.ensures.0 in
    record { lead = IfOk-from_err c.from_residual-in_err-words-2.result _ failed; count = IfOk-from_err c.from_residual-in_err-words-2.result _ failed; hands = IfOk-from_err c.from_residual-in_err-words-2.result _ failed }

pub returns-in_err-rung : goal.returns-in_err-rung
returns-in_err-rung g c =
    let failed = c.from_residual-in_err-rung.ensures.0 in
    record { lead = IfOk-from_err c.from_residual-in_err-rung.result _ failed; count = IfOk-from_err c.from_residual-in_err-rung.result _ failed; hands = IfOk-from_err c.from_residual-in_err-rung.result _ failed }

pub returns-in_err-hand : goal.returns-in_err-hand
returns-in_err-hand g c =
    let failed = c.from_residual-in_err-hand.ensures.0 in
    record { lead = IfOk-from_err c.from_residual-in_err-hand.result _ failed; count = IfOk-from_err c.from_residual-in_err-hand.result _ failed; hands = IfOk-from_err c.from_residual-in_err-hand.result _ failed }

pub returns-in_err-lead : goal.returns-in_err-lead
returns-in_err-lead g c =
    let failed = c.from_residual-in_err-lead.ensures.0 in
    record { lead = IfOk-from_err c.from_residual-in_err-lead.result _ failed; count = IfOk-from_err c.from_residual-in_err-lead.result _ failed; hands = IfOk-from_err c.from_residual-in_err-lead.result _ failed }
