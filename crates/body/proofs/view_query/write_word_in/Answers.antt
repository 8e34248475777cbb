use Rattle.std.proofs.Common.{map, sym, ap, ◌∙◌, arith}
use Rattle.std.proofs.lemmas.Int.{to_z-of_z}
use Rattle.kinds.specs.Kind.{kind_number}
use Rattle.kinds.specs.Components.{widths}
use Rattle.body.specs.declared.view_column.ViewColumn.{ViewColumn}
use Rattle.body.specs.Columns.{with_cell}
use Rattle.body.specs.Fields.{field_cell}
use Rattle.body.specs.HeldColumns.{held_seen, slots_seen}
use Rattle.body.specs.Sheet.{slot_in}
use Rattle.body.proofs.Edits.{map-set_update}
use Rattle.body.proofs.FieldRows.{own-there, own-within, field-changed}
use Rattle.body.proofs.view_query.write_word_in.Goals as goal

pub index_mut-held-requires : goal.index_mut-held-requires
index_mut-held-requires c =
    let k = kind_number c.args.kind in
    let within = own-within c.args.columns.now.items (slot_in (map slots_seen c.args.slots.now) c.args.at.archetype k) k c.in-Some.slot c.args.at.place c.in-Some.ensures c.requires.writable in
    let v = c.args.columns.now.ok.0 in
    omega arith

pub set_field-requires-clause-written : goal.set_field-requires-clause-written
set_field-requires-clause-written c =
    let k = kind_number c.args.kind in
    (own-there c.args.columns.now.items (slot_in (map slots_seen c.args.slots.now) c.args.at.archetype k) k c.in-Some.slot c.args.at.place c.index_mut-held.result.now c.in-Some.ensures c.requires.writable c.index_mut-held.ensures.value).own

pub set_field-requires-clause-kind : goal.set_field-requires-clause-kind
set_field-requires-clause-kind c =
    let k = kind_number c.args.kind in
    (own-there c.args.columns.now.items (slot_in (map slots_seen c.args.slots.now) c.args.at.archetype k) k c.in-Some.slot c.args.at.place c.index_mut-held.result.now c.in-Some.ensures c.requires.writable c.index_mut-held.ensures.value).kind

pub set_field-requires-clause-within : goal.set_field-requires-clause-within
set_field-requires-clause-within c =
    let k = kind_number c.args.kind in
    (own-there c.args.columns.now.items (slot_in (map slots_seen c.args.slots.now) c.args.at.archetype k) k c.in-Some.slot c.args.at.place c.index_mut-held.result.now c.in-Some.ensures c.requires.writable c.index_mut-held.ensures.value).within

pub returns : goal.returns
returns c =
    let k = kind_number c.args.kind in
    let change = with_cell c.args.at.place (field_cell (widths k) c.args.tick c.args.place c.args.value) in
    field-changed (map slots_seen c.args.slots.now) (map held_seen c.args.columns.now.items) _ c.args.at k (widths k) c.args.tick c.args.place c.in-Some.slot c.args.value (sym c.in-Some.ensures)
    (map-set_update held_seen change c.args.columns.now.items c.in-Some.slot c.set_field.new.self c.index_mut-held.result.now (c.set_field.ensures
    ∙ ap (λ x. with_cell c.args.at.place (field_cell (widths k) c.args.tick c.args.place x) (held_seen c.index_mut-held.result.now)) (search to_z-of_z)
    ∙ ap (λ (h : ViewColumn). change (held_seen h)) c.index_mut-held.ensures.value))
