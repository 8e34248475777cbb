use Rattle.column_store.proofs.Common.{◌≡◌, true, false, get_or, sym, ap, ◌∙◌, arith}
use Rattle.column_store.proofs.Numbers.{row_before, rows_below, rows_above, gap_from_rows}
use Rattle.column_store.proofs.row_numbers.gap_of.Goals as goal

pub loop-low-preserved-then-comes_before : goal.loop-low-preserved-then-comes_before
loop-low-preserved-then-comes_before c =
    let es = c.args.entities.now in
    let e = c.args.e in
    let i = c.loop-low.invariant in
    let place = c.looked_at-place.result in
    let low = c.looked_at-place.ensures.low in
    let less = c.looked_at-place.ensures.high in
    let at : row_before es e (get_or c.args.numbers.now.items place 0) ≡ true = ap (row_before es e) (sym c.at.ensures) ∙ sym c.comes_before.ensures ∙ c.if-comes_before.true in
    record { within = omega (arith, less); bound = i.bound; before = rows_below es e c.args.numbers.now.items place c.requires (omega (arith, less, i.bound)) at; behind = i.behind }

pub loop-low-preserved : goal.loop-low-preserved
loop-low-preserved c =
    let es = c.args.entities.now in
    let e = c.args.e in
    let rows = c.args.numbers.now.items in
    let i = c.loop-low.invariant in
    let place = c.looked_at-place.result in
    let at : row_before es e (get_or rows place 0) ≡ false = ap (row_before es e) (sym c.at.ensures) ∙ sym c.comes_before.ensures ∙ c.if-comes_before.false in
    record { within = c.looked_at-place.ensures.low; bound = omega (arith, c.looked_at-place.ensures.high, i.bound); before = i.before; behind = rows_above es e rows place c.requires at }

pub returns : goal.returns
returns c =
    let i = c.loop-low.invariant in
    let one = c.loop-low-test.false in
    let b = i.bound in
    let w = i.within in
    gap_from_rows c.args.entities.now c.args.e c.args.numbers.now.items c.loop-low.low c.requires.within (omega (arith, w, b)) (λ k d low high. i.before k d high, λ k d low high. i.behind k d (omega (arith, one, low)) high)
