use Rattle.column_store.proofs.Common.{◌-◌, ◌<◌, length, set, sym, ap, subst, ◌∙◌, arith, length-set, remove, GapListValue, IsOrderOf, swap_removed}
use Rattle.std.proofs.lemmas.List.Edits.{length-remove}
use Rattle.column_store.proofs.Numbers.{placed, ordered-take}
use Rattle.column_store.proofs.row_numbers.take_number.Goals as goal

pub set-requires : goal.set-requires
set-requires c =
    let es = c.args.entities.now in
    (placed es c.args.numbers.now.items c.gap_of-moved.result (length es - 1) 0 c.requires.order.rising (c.requires.order.every (length es - 1) (omega arith)) c.gap_of-moved.ensures).0

pub remove-requires : goal.remove-requires
remove-requires c =
    let rows = c.args.numbers.now.items in
    let at = placed c.args.entities.now rows c.gap_of-place.result c.args.row 0 c.requires.order.rising (c.requires.order.every c.args.row c.requires.within) c.gap_of-place.ensures in
    let long = ap (λ (v : GapListValue). length v.items) c.set.ensures ∙ length-set rows c.gap_of-moved.result c.args.row in
    omega (arith, at.0, long)

pub returns-clause-order : goal.returns-clause-order
returns-clause-order c =
    let es = c.args.entities.now in
    let rows = c.args.numbers.now.items in
    let at = placed es rows c.gap_of-place.result c.args.row 0 c.requires.order.rising (c.requires.order.every c.args.row c.requires.within) c.gap_of-place.ensures in
    let last = placed es rows c.gap_of-moved.result (length es - 1) 0 c.requires.order.rising (c.requires.order.every (length es - 1) (omega arith)) c.gap_of-moved.ensures in
    subst (IsOrderOf (swap_removed es c.args.row))
    (sym (ap (λ (v : GapListValue). v.items) c.remove.ensures ∙ ap (λ (v : GapListValue). remove v.items c.gap_of-place.result) c.set.ensures))
    (ordered-take es rows c.args.row c.gap_of-place.result c.gap_of-moved.result c.requires.order c.requires.within at last)

pub returns-clause-many : goal.returns-clause-many
returns-clause-many c =
    let rows = c.args.numbers.now.items in
    let at = placed c.args.entities.now rows c.gap_of-place.result c.args.row 0 c.requires.order.rising (c.requires.order.every c.args.row c.requires.within) c.gap_of-place.ensures in
    let renumbered = set rows c.gap_of-moved.result c.args.row in
    let long = length-set rows c.gap_of-moved.result c.args.row in
    let place : c.gap_of-place.result < length renumbered = omega (arith, at.0, long) in
    let less = length-remove renumbered c.gap_of-place.result place in
    let is = ap (λ (v : GapListValue). length v.items) c.remove.ensures ∙ ap (λ (v : GapListValue). length (remove v.items c.gap_of-place.result)) c.set.ensures in
    omega (arith, less, is, long)
