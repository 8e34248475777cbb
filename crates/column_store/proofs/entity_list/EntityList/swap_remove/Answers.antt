use Rattle.column_store.proofs.Common.{◌<◌, length, sym, subst, ◌∙◌, arith, EntityListValue, IsKept}
use Rattle.column_store.proofs.Listed.{removed_rising}
use Rattle.column_store.proofs.Swapped.{swap_removed-is}
use Rattle.column_store.proofs.entity_list.EntityList.swap_remove.Goals as goal

pub invariant_of-self : goal.invariant_of-self
invariant_of-self c =
    let es = c.self.inside.list.items in
    let row = c.args.row in
    let within = subst (λ (v : EntityListValue). row < length v.list) (sym c.self.view_is) c.requires in
    let rising = subst (λ b. IsKept es b c.self.inside.numbers.items) c.if-not-self.true c.self.invariant.kept in
    let a = c.self.inside.list.ok.0 in
    removed_rising es c.swap_remove.new.self.items c.self.inside.listed c.self.inside.numbers row c.self.invariant.apart within (c.swap_remove.ensures.items ∙ swap_removed-is es row c.swap_remove.result within)
    c.take.new.self c.if-not-self.true rising (omega (arith, c.if-row-len.true, c.len.ensures)) c.self.invariant.as_many c.self.invariant.room c.self.invariant.few c.take.ensures.after
