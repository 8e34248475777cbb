use Rattle.column_store.proofs.Common.{◌++◌, ◌∷◌, [], ◌<◌, length, sym, subst, arith, EntityListValue, IsKept, is_same, AreRising, IsNowhere}
use Rattle.column_store.proofs.Listed.{pushed_rising}
use Rattle.column_store.proofs.entity_list.EntityList.push.Goals as goal

pub invariant_of-self : goal.invariant_of-self
invariant_of-self c =
    let es = c.self.inside.list.items in
    let e = c.args.e in
    let absent = subst (λ (v : EntityListValue). IsNowhere (λ x. is_same x e) v.list) (sym c.self.view_is) c.requires.absent in
    let room = subst (λ (v : EntityListValue). length v.list < v.room) (sym c.self.view_is) c.requires.room in
    let rising = subst (λ b. IsKept es b c.self.inside.numbers.items) c.if-not-self.true c.self.invariant.kept in
    let behind = subst (λ xs. AreRising (xs ++ e ∷ [])) c.deref.ensures.value (c.comes_behind.ensures (subst AreRising (sym c.deref.ensures.value) rising) c.if-comes_behind.true) in
    pushed_rising es c.push_reserved.new.self.items c.self.inside.listed c.self.inside.numbers e c.take.new.self c.self.invariant.apart absent c.push_reserved.ensures.items c.if-not-self.true behind
    c.self.invariant.as_many (omega arith) (omega arith) c.take.ensures.after
