use Rattle.column_store.proofs.Common.{length, arith}
use Rattle.column_store.proofs.Listed.{few_numbers}
use Rattle.column_store.proofs.entity_list.EntityList.reserve.Goals as goal

pub reserve-requires-2 : goal.reserve-requires-2
reserve-requires-2 c =
    let few = few_numbers c.self.inside.listed (length c.self.inside.list.items) _ c.self.invariant.as_many in
    let same = c.self.inside.list.ok.0 in
    omega (arith, few, c.len-count.ensures)
