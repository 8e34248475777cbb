use Rattle.std.proofs.Common.{Some, set, ap, ◌∙◌}
use Rattle.kinds.specs.Kind.{kind_number}
use Rattle.body.specs.declared.view_query.ColumnIndex.{ColumnIndex}
use Rattle.body.specs.HeldColumns.{slots_seen}
use Rattle.body.proofs.Edits.{map-set_update}
use Rattle.body.proofs.slot_table.set_slot.Goals as goal

pub returns-clause-slots : goal.returns-clause-slots
returns-clause-slots c =
    let k = kind_number c.args.kind in
    map-set_update slots_seen (λ columns. set columns k (Some c.args.column)) c.args.slots.now.items c.args.archetype _ c.index_mut-row.result.now
    (ap (λ n. set c.index_mut-row.result.now.columns n (Some c.args.column)) c.number.ensures
    ∙ ap (λ (s : ColumnIndex). set s.columns k (Some c.args.column)) c.index_mut-row.ensures.value)
