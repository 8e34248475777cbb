use Rattle.column_store.proofs.Common.{◌≡◌, ◌<◌, ◌==◌, vec_len, length, refl, sym, ap, subst, ◌∙◌, arith, EntityListValue, IsOrderOf, swap_removed}
use Rattle.column_store.proofs.Listed.{removed_listed}
use Rattle.column_store.proofs.Swapped.{swap_removed-is}
use Rattle.column_store.proofs.entity_list.EntityList.swap_remove_listed.Goals as goal

pub invariant_of-self : goal.invariant_of-self
invariant_of-self c =
    let es = c.self.inside.list.items in
    let row = c.args.row in
    let within = subst (λ (v : EntityListValue). row < length v.list) (sym c.self.view_is) c.requires in
    let order = subst (λ xs. IsOrderOf (swap_removed xs row) c.take_number.new.numbers.items) c.deref-2.ensures.value c.take_number.ensures.order in
    let many = ap length c.deref.ensures.value in
    let is = c.swap_remove.ensures.items ∙ swap_removed-is es row c.swap_remove.result within in
    let a = c.self.inside.list.ok.0 in
    let same : vec_len c.swap_remove.new.self ≡ length c.take_number.new.numbers.items = omega (arith, c.swap_remove.ensures.len, c.take_number.ensures.many, c.ensure_listed.ensures.many) in
    removed_listed es c.swap_remove.new.self.items _ c.take_number.new.numbers row c.self.invariant.apart within is c.is_empty.result (c.is_empty.ensures ∙ ap (λ n. n == 0) same) refl order
    (omega (arith, c.take_number.ensures.many, c.ensure_listed.ensures.many)) (omega (arith, c.take_number.ensures.room, c.ensure_listed.ensures.room)) (omega arith)
