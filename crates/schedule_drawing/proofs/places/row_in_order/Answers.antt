use Rattle.std.proofs.Common.{◌≡◌, ℕ, ◌+◌, cond, List, drop, get_or, refl, sym, ap, ◌∙◌}
use Rattle.std.proofs.lemmas.Bool.{eq-eqb, ne_eqb}
use Rattle.schedule_drawing.specs.Places.{is_leading, next_row, row_from}
use Rattle.schedule_drawing.proofs.LoopSteps.{left_next, left_found, left_none}
use Rattle.schedule_drawing.proofs.places.row_in_order.Goals as goal
use Rattle.schedule_drawing.proofs.places.row_in_order.Goals.{then-is_leading, else-is_leading}

pub loop-other-preserved : goal.loop-other-preserved
loop-other-preserved c =
    let order : List ℕ = c.order-order.result.now in
    let x : ℕ = get_or order c.loop-other.other-index 0 in
    let left : List ℕ = drop (c.loop-other.other-index + 1) order in
    let rows : ℕ → ℕ = λ row. row_from c.args.built.now c.args.leaders.now c.args.level c.args.leader row left in
    let row : cond (is_leading c.args.built.now c.args.leaders.now c.args.level x) (next_row c.loop-other.row) c.loop-other.row ≡ c.if-is_leading.row = elim c.if-is_leading.branch [
      | then-is_leading w ↦ ap (λ b. cond b (next_row c.loop-other.row) c.loop-other.row) (sym c.is_leading.ensures ∙ w.if-is_leading.true) ∙ sym (w.row-is ∙ w.saturating_add-row.ensures)
      | else-is_leading w ↦ ap (λ b. cond b (next_row c.loop-other.row) c.loop-other.row) (sym c.is_leading.ensures ∙ w.if-is_leading.false) ∙ sym w.row-is
    ] in
    left_next (row_from c.args.built.now c.args.leaders.now c.args.level c.args.leader c.loop-other.row) (row_from c.args.built.now c.args.leaders.now c.args.level c.args.leader c.if-is_leading.row) order c.loop-other.other-index 0 x _
    c.loop-other-test.true refl c.loop-other.invariant
    (ap (λ b. cond b c.loop-other.row (rows (cond (is_leading c.args.built.now c.args.leaders.now c.args.level x) (next_row c.loop-other.row) c.loop-other.row))) (ne_eqb x c.args.leader c.if-other-leader.false) ∙ ap rows row)

pub returns-then-other-leader : goal.returns-then-other-leader
returns-then-other-leader c =
    let order : List ℕ = c.order-order.result.now in
    let x : ℕ = get_or order c.loop-other.other-index 0 in
    let left : List ℕ = drop (c.loop-other.other-index + 1) order in
    let row : ℕ = c.loop-other.row in
    left_found (row_from c.args.built.now c.args.leaders.now c.args.level c.args.leader row) order c.loop-other.other-index 0 x row _
    c.loop-other-test.true refl c.loop-other.invariant
    (ap (λ b. cond b row (row_from c.args.built.now c.args.leaders.now c.args.level c.args.leader (cond (is_leading c.args.built.now c.args.leaders.now c.args.level x) (next_row row) row) left)) (eq-eqb x c.args.leader c.if-other-leader.true))

pub returns : goal.returns
returns c =
    left_none (row_from c.args.built.now c.args.leaders.now c.args.level c.args.leader c.loop-other.row) c.order-order.result.now c.loop-other.other-index c.loop-other.row _
    c.loop-other-test.false refl c.loop-other.invariant
