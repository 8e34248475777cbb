use Rattle.column_store.proofs.Common.{◌≤◌, ◌++◌, ◌∷◌, [], map, length, subst, sym, ap, arith, length-map, GapListValue, entity_at, IsOrderOf}
use Rattle.std.proofs.lemmas.List.Edits.{length-insert}
use Rattle.column_store.proofs.Rising.{gap-within}
use Rattle.column_store.proofs.Numbers.{ordered-push}
use Rattle.column_store.proofs.row_numbers.put_number.Goals as goal

pub insert-requires-clause-within : goal.insert-requires-clause-within
insert-requires-clause-within c =
    let le = gap-within c.args.e (map (entity_at c.args.entities.now) c.args.numbers.now.items) c.gap_of-gap.result c.gap_of-gap.ensures in
    omega (arith, length-map c.args.numbers.now.items (entity_at c.args.entities.now), le)

pub returns-clause-order : goal.returns-clause-order
returns-clause-order c =
    subst (IsOrderOf (c.args.entities.now ++ c.args.e ∷ [])) (sym (ap (λ (v : GapListValue). v.items) c.insert.ensures))
    (ordered-push c.args.entities.now c.args.e c.args.numbers.now.items c.gap_of-gap.result c.requires.order c.requires.absent c.gap_of-gap.ensures)

pub returns-clause-many : goal.returns-clause-many
returns-clause-many c =
    let rows = c.args.numbers.now.items in
    let es = c.args.entities.now in
    let le = gap-within c.args.e (map (entity_at es) rows) c.gap_of-gap.result c.gap_of-gap.ensures in
    let within : c.gap_of-gap.result ≤ length rows = omega (arith, length-map rows (entity_at es), le) in
    let more = length-insert rows c.gap_of-gap.result (length es) within in
    let is = ap (λ (v : GapListValue). length v.items) c.insert.ensures in
    omega (arith, more, is)
