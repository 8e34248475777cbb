use Rattle.column_store.proofs.Common.{◌<◌, ◌++◌, length, reverse, set, min, sym, ap, subst, ◌∙◌, arith, vec_capacity, GapListValue}
use Rattle.column_store.proofs.Gaps.{length-gap, set_before, set_behind}
use Rattle.column_store.proofs.gap_list.GapList.set.Goals as goal

pub returns-then-place-count : goal.returns-then-place-count
returns-then-place-count c =
    let front = c.self.inside.front in
    let back = c.self.inside.back in
    let place = c.args.place in
    let same = front.ok.0 in
    let less : place < length front.items = omega (arith, c.if-place-count.true, c.len-count.ensures) in
    ap (λ xs. let v : GapListValue = record { items = xs; room = min (vec_capacity front) (vec_capacity back) } in v) (set_before front.items (reverse back.items) place c.args.number less)
    ∙ ap (λ (v : GapListValue). let w : GapListValue = record { items = set v.items place c.args.number; room = v.room } in w) c.self.view_is

pub returns : goal.returns
returns c =
    let front = c.self.inside.front in
    let back = c.self.inside.back in
    let place = c.args.place in
    let number = c.args.number in
    let a = front.ok.0 in
    let b = back.ok.0 in
    let within : place < length (front.items ++ reverse back.items) = subst (λ (v : GapListValue). place < length v.items) (sym c.self.view_is) c.requires in
    let long = length-gap front.items back.items in
    ap (λ xs. let v : GapListValue = record { items = xs; room = min (vec_capacity front) (vec_capacity back) } in v)
    (set_behind front.items back.items place _ number (omega (arith, c.if-place-count.false, c.len-count.ensures)) (omega (arith, within, long)) (omega (arith, c.len.ensures, c.len-count.ensures)))
    ∙ ap (λ (v : GapListValue). let w : GapListValue = record { items = set v.items place number; room = v.room } in w) c.self.view_is
