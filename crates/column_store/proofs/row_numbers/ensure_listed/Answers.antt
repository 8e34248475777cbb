use Rattle.column_store.proofs.Common.{length, sym, ap, subst, ◌∙◌, GapListValue, IsKept, IsOrderOf}
use Rattle.column_store.proofs.Ordered.{rising-ordered, length-numbers}
use Rattle.column_store.proofs.row_numbers.ensure_listed.Goals as goal

pub returns-clause-order : goal.returns-clause-order
returns-clause-order c =
    let es = c.args.entities.now in
    let rising = subst (λ b. IsKept es b c.args.numbers.now.items) c.if-listed.false c.requires.kept in
    subst (IsOrderOf es) (sym (ap (λ (v : GapListValue). v.items) c.count_up.ensures)) (rising-ordered es rising)

pub returns-clause-many : goal.returns-clause-many
returns-clause-many c = ap (λ (v : GapListValue). length v.items) c.count_up.ensures ∙ length-numbers 0 (length c.args.entities.now)
