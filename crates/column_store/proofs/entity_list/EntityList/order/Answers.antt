use Rattle.column_store.proofs.Common.{length, subst, EntityListValue, IsKept, numbers_from, IsOrderOf}
use Rattle.column_store.proofs.Ordered.{rising-ordered}
use Rattle.column_store.proofs.entity_list.EntityList.order.Goals as goal

pub returns-else-self : goal.returns-else-self
returns-else-self c =
    let rising = subst (λ b. IsKept c.self.inside.list.items b c.self.inside.numbers.items) c.if-self.false c.self.invariant.kept in
    subst (λ (v : EntityListValue). IsOrderOf v.list (numbers_from 0 (length v.list))) c.self.view_is (rising-ordered c.self.inside.list.items rising)
