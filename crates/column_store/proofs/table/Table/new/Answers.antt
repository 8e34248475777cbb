use Rattle.column_store.proofs.Common.{ap, EntityListValue}
use Rattle.column_store.proofs.Made.{made_kept, made_view}
use Rattle.column_store.proofs.Roomy.{no_spare}
use Rattle.column_store.proofs.table.Table.new.Goals as goal

pub invariant_of-result : goal.invariant_of-result
invariant_of-result c =
    let columns = c.in_ok-columns.columns in
    no_spare _ c.new-2.result columns.slots.items
    (made_kept columns.kinds.items c.args.kinds.now c.new-2.result.list columns.slots.items c.in_ok-columns.ensures.kinds (ap (λ (v : EntityListValue). v.list) c.new-2.ensures) c.in_ok-columns.ensures.slots)

pub returns : goal.returns
returns c =
    let columns = c.in_ok-columns.columns in
    made_view columns.kinds.items c.args.kinds.now c.new-2.result.list columns.slots.items c.in_ok-columns.ensures.kinds (ap (λ (v : EntityListValue). v.list) c.new-2.ensures) c.in_ok-columns.ensures.slots
