use Rattle.std.proofs.Common.{map, get_or, ap, ◌∙◌}
use Rattle.kinds.specs.Value.{value_number, value_words}
use Rattle.column_store.specs.Cells.{changed_cell}
use Rattle.body.specs.Columns.{with_cell}
use Rattle.body.specs.HeldColumns.{held_seen, slots_seen}
use Rattle.body.specs.Sheet.{at_slot, slot_in}
use Rattle.body.proofs.Edits.{map-set_update}
use Rattle.body.proofs.FieldRows.{own-there, own-within}
use Rattle.body.proofs.view_query.set_at.Goals as goal

pub returns : goal.returns
returns c =
    let change = with_cell c.args.at.place (changed_cell (value_words c.args.value) c.args.tick) in
    map-set_update held_seen change c.args.columns.now c.in-Some.slot c.set.new.self c.index-columns-slot.result c.set.ensures
    ∙ ap (λ s. at_slot s change (map held_seen c.args.columns.now)) (c.in-Some.ensures ∙ ap (slot_in (map slots_seen c.args.slots.now) c.args.at.archetype) c.kind.ensures)

pub bounds-columns-slot : goal.bounds-columns-slot
bounds-columns-slot c =
    let o = slot_in (map slots_seen c.args.slots.now) c.args.at.archetype (value_number c.args.value) in
    let is = c.in-Some.ensures ∙ ap (slot_in (map slots_seen c.args.slots.now) c.args.at.archetype) c.kind.ensures in
    own-within c.args.columns.now o (value_number c.args.value) c.in-Some.slot c.args.at.place is c.requires.writable

pub set-requires-clause-written : goal.set-requires-clause-written
set-requires-clause-written c =
    let o = slot_in (map slots_seen c.args.slots.now) c.args.at.archetype (value_number c.args.value) in
    let is = c.in-Some.ensures ∙ ap (slot_in (map slots_seen c.args.slots.now) c.args.at.archetype) c.kind.ensures in
    (own-there c.args.columns.now o (value_number c.args.value) c.in-Some.slot c.args.at.place (get_or c.args.columns.now c.in-Some.slot c.index-columns-slot.result) is c.requires.writable
    (ap (get_or c.args.columns.now c.in-Some.slot) c.index-columns-slot.is)).own

pub set-requires-clause-kind : goal.set-requires-clause-kind
set-requires-clause-kind c =
    let o = slot_in (map slots_seen c.args.slots.now) c.args.at.archetype (value_number c.args.value) in
    let is = c.in-Some.ensures ∙ ap (slot_in (map slots_seen c.args.slots.now) c.args.at.archetype) c.kind.ensures in
    (own-there c.args.columns.now o (value_number c.args.value) c.in-Some.slot c.args.at.place (get_or c.args.columns.now c.in-Some.slot c.index-columns-slot.result) is c.requires.writable
    (ap (get_or c.args.columns.now c.in-Some.slot) c.index-columns-slot.is)).kind

pub set-requires-clause-within : goal.set-requires-clause-within
set-requires-clause-within c =
    let o = slot_in (map slots_seen c.args.slots.now) c.args.at.archetype (value_number c.args.value) in
    let is = c.in-Some.ensures ∙ ap (slot_in (map slots_seen c.args.slots.now) c.args.at.archetype) c.kind.ensures in
    (own-there c.args.columns.now o (value_number c.args.value) c.in-Some.slot c.args.at.place (get_or c.args.columns.now c.in-Some.slot c.index-columns-slot.result) is c.requires.writable
    (ap (get_or c.args.columns.now c.in-Some.slot) c.index-columns-slot.is)).within
