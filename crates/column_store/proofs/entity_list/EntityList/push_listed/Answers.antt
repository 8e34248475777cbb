use Rattle.column_store.proofs.Common.{◌++◌, ◌∷◌, [], ◌<◌, length, sym, ap, subst, arith, EntityListValue, is_same, IsNowhere, IsOrderOf}
use Rattle.column_store.proofs.Listed.{pushed_listed}
use Rattle.column_store.proofs.entity_list.EntityList.push_listed.Goals as goal

pub invariant_of-self : goal.invariant_of-self
invariant_of-self c =
    let es = c.self.inside.list.items in
    let e = c.args.e in
    let absent = subst (λ (v : EntityListValue). IsNowhere (λ x. is_same x e) v.list) (sym c.self.view_is) c.requires.absent in
    let room = subst (λ (v : EntityListValue). length v.list < v.room) (sym c.self.view_is) c.requires.room in
    let order = subst (λ xs. IsOrderOf (xs ++ e ∷ []) c.put_number.new.numbers.items) c.deref-2.ensures.value c.put_number.ensures.order in
    let many = ap length c.deref.ensures.value in
    pushed_listed es c.push_reserved.new.self.items c.ensure_listed.new.listed c.put_number.new.numbers e c.self.invariant.apart absent c.push_reserved.ensures.items c.ensure_listed.ensures.listed order
    (omega (arith, c.put_number.ensures.many, c.ensure_listed.ensures.many)) (omega (arith, c.put_number.ensures.room, c.ensure_listed.ensures.room)) (omega arith)
