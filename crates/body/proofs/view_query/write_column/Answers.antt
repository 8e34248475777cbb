use Rattle.std.proofs.Common.{◌+◌, ◌-◌, ◌<◌, map, length, ap, ◌∙◌, arith}
use Rattle.kinds.specs.Kind.{kind_number}
use Rattle.kinds.specs.Components.{widths}
use Rattle.body.specs.declared.view_column.ViewColumn.{ViewColumn}
use Rattle.body.specs.Fields.{column_with_fields}
use Rattle.body.specs.HeldColumns.{held_seen, slots_seen}
use Rattle.body.specs.Sheet.{slot_in, at_slot}
use Rattle.body.proofs.Edits.{map-set_update}
use Rattle.body.proofs.FieldRows.{own-there, own-within, none-written}
use Rattle.body.proofs.view_query.write_column.Goals as goal

pub returns-then-count-eq0 : goal.returns-then-count-eq0
returns-then-count-eq0 c =
    let k = kind_number c.args.kind in
    none-written (slot_in (map slots_seen c.args.slots.now) c.args.archetype k) (widths k) c.args.tick c.args.place c.args.from c.args.values.now (map held_seen c.args.columns.now.items) (omega arith)

pub index_mut-held-requires : goal.index_mut-held-requires
index_mut-held-requires c =
    let k = kind_number c.args.kind in
    let some : 0 < length c.args.values.now = omega arith in
    let within = own-within c.args.columns.now.items (slot_in (map slots_seen c.args.slots.now) c.args.archetype k) k c.in-Some.slot (c.args.from + 0) c.in-Some.ensures (c.requires.writable 0 some) in
    let v = c.args.columns.now.ok.0 in
    omega arith

pub write_field-requires-clause-written : goal.write_field-requires-clause-written
write_field-requires-clause-written c =
    let k = kind_number c.args.kind in
    let some : 0 < length c.args.values.now = omega arith in
    (own-there c.args.columns.now.items (slot_in (map slots_seen c.args.slots.now) c.args.archetype k) k c.in-Some.slot (c.args.from + 0) c.index_mut-held.result.now c.in-Some.ensures (c.requires.writable 0 some) c.index_mut-held.ensures.value).own

pub write_field-requires-clause-kind : goal.write_field-requires-clause-kind
write_field-requires-clause-kind c =
    let k = kind_number c.args.kind in
    let some : 0 < length c.args.values.now = omega arith in
    (own-there c.args.columns.now.items (slot_in (map slots_seen c.args.slots.now) c.args.archetype k) k c.in-Some.slot (c.args.from + 0) c.index_mut-held.result.now c.in-Some.ensures (c.requires.writable 0 some) c.index_mut-held.ensures.value).kind

pub write_field-requires-clause-within : goal.write_field-requires-clause-within
write_field-requires-clause-within c =
    let k = kind_number c.args.kind in
    let last = length c.args.values.now - 1 in
    let some : last < length c.args.values.now = omega arith in
    let within = (own-there c.args.columns.now.items (slot_in (map slots_seen c.args.slots.now) c.args.archetype k) k c.in-Some.slot (c.args.from + last) c.index_mut-held.result.now c.in-Some.ensures (c.requires.writable last some) c.index_mut-held.ensures.value).within in
    omega arith

pub returns : goal.returns
returns c =
    let k = kind_number c.args.kind in
    let change = column_with_fields (widths k) c.args.tick c.args.place c.args.from c.args.values.now in
    map-set_update held_seen change c.args.columns.now.items c.in-Some.slot c.write_field.new.self c.index_mut-held.result.now (c.write_field.ensures ∙ ap (λ (h : ViewColumn). change (held_seen h)) c.index_mut-held.ensures.value)
    ∙ ap (λ s. at_slot s change (map held_seen c.args.columns.now.items)) c.in-Some.ensures
